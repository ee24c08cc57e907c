-- Members by name: what a change under one name leaves under the others.
use Rattle.std.proofs.Common.{◌≡◌, Bool, true, false, List, [], ◌∷◌, Option, Some, None, refl, sym, ◌∙◌, ap}
use Rattle.std.specs.Prelude.{if◌then◌else◌}
use Rattle.std.specs.Map.{lookup}
use Rattle.std.proofs.lemmas.Option.{same_Some}
use Rattle.mx_value.specs.Name.{same_name}
use Rattle.mx_value.proofs.Enums.{text_decides}
use Rattle.mx_syntax.specs.declared.stmt.Formula.{Formula}
use Rattle.mx_model.specs.Records.{Name, CellsRecord}
use Rattle.mx_model.specs.Readers.{or_false}
use Rattle.mx_model.specs.Change.{define, without, define_cells, set_allow}

pub same_is : (a b : Name) → same_name a b ≡ true → a ≡ b
same_is a b e = (text_decides a b).0 e

pub is_same : (a b : Name) → a ≡ b → same_name a b ≡ true
is_same a b e = (text_decides a b).1 e

no_by : (a b : Name) (t : Bool) → same_name b a ≡ t → same_name a b ≡ false → same_name b a ≡ false
no_by a b true e n = absurd (let f : true ≡ false = sym (is_same a b (sym (same_is b a e))) ∙ n in cc)
no_by a b false e n = e

pub other_way : (a b : Name) → same_name a b ≡ false → same_name b a ≡ false
other_way a b n = no_by a b (same_name b a) refl n

-- a test of one name fails on what a test of another passes
apart_by : (a b c : Name) (t : Bool) → same_name b c ≡ t → same_name a c ≡ true → same_name a b ≡ false → same_name b c ≡ false
apart_by a b c true e s n =
    let same : a ≡ b = same_is a c s ∙ sym (same_is b c e) in
    absurd (let f : true ≡ false = sym (is_same a b same) ∙ n in cc)
apart_by a b c false e s n = e

pub apart : (a b c : Name) → same_name a c ≡ true → same_name a b ≡ false → same_name b c ≡ false
apart a b c s n = apart_by a b c (same_name b c) refl s n

module _ {X : Type 0} where
  abbrev chosen : Bool → Option X → Option X → Option X
  chosen b one other = if b then one else other

  passed : (name : Name) (m : Name × X) (ms : List (Name × X)) → same_name name m.0 ≡ false → lookup (same_name name) (m ∷ ms) ≡ lookup (same_name name) ms
  passed name m ms n = ap (λ b. chosen b (Some m.1) (lookup (same_name name) ms)) n

  taken : (name : Name) (m : Name × X) (ms : List (Name × X)) → same_name name m.0 ≡ true → lookup (same_name name) (m ∷ ms) ≡ Some m.1
  taken name m ms y = ap (λ b. chosen b (Some m.1) (lookup (same_name name) ms)) y

  -- ---- a definition

  define_by : (name other : Name) (m : Name × X) (ms : List (Name × X)) (x : X) (b : Bool) → same_name name m.0 ≡ b → same_name name other ≡ false → lookup (same_name other) (define same_name ms name x) ≡ lookup (same_name other) ms → lookup (same_name other) (define same_name (m ∷ ms) name x) ≡ lookup (same_name other) (m ∷ ms)
  define_by name other m ms x true e n rest =
      let at : define same_name (m ∷ ms) name x ≡ (m.0, x) ∷ ms = ap (λ b. if b then (m.0, x) ∷ ms else m ∷ define same_name ms name x) e in
      let no = apart name other m.0 e n in
      ap (lookup (same_name other)) at ∙ passed other (m.0, x) ms no ∙ sym (passed other m ms no)
  define_by name other m ms x false e n rest =
      let at : define same_name (m ∷ ms) name x ≡ m ∷ define same_name ms name x = ap (λ b. if b then (m.0, x) ∷ ms else m ∷ define same_name ms name x) e in
      ap (lookup (same_name other)) at ∙ ap (chosen (same_name other m.0) (Some m.1)) rest

  -- other names have what they had
  pub define_other : (name other : Name) (ms : List (Name × X)) (x : X) → same_name name other ≡ false → lookup (same_name other) (define same_name ms name x) ≡ lookup (same_name other) ms
  define_other name other [] x n = passed other (name, x) [] (other_way name other n)
  define_other name other (m ∷ ms) x n = define_by name other m ms x (same_name name m.0) refl n (define_other name other ms x n)

  defined_by : (name : Name) (m : Name × X) (ms : List (Name × X)) (x : X) (b : Bool) → same_name name m.0 ≡ b → lookup (same_name name) (define same_name ms name x) ≡ Some x → lookup (same_name name) (define same_name (m ∷ ms) name x) ≡ Some x
  defined_by name m ms x true e rest =
      ap (λ b. lookup (same_name name) (if b then (m.0, x) ∷ ms else m ∷ define same_name ms name x)) e ∙ taken name (m.0, x) ms e
  defined_by name m ms x false e rest =
      ap (λ b. lookup (same_name name) (if b then (m.0, x) ∷ ms else m ∷ define same_name ms name x)) e ∙ passed name m (define same_name ms name x) e ∙ rest

  -- the name has what it was given
  pub define_own : (name : Name) (ms : List (Name × X)) (x : X) → lookup (same_name name) (define same_name ms name x) ≡ Some x
  define_own name [] x = taken name (name, x) [] (is_same name name refl)
  define_own name (m ∷ ms) x = defined_by name m ms x (same_name name m.0) refl (define_own name ms x)

  -- ---- a removal

  without_by : (name other : Name) (m : Name × X) (ms : List (Name × X)) (b : Bool) → same_name name m.0 ≡ b → same_name name other ≡ false → lookup (same_name other) (without same_name ms name) ≡ lookup (same_name other) ms → lookup (same_name other) (without same_name (m ∷ ms) name) ≡ lookup (same_name other) (m ∷ ms)
  without_by name other m ms true e n rest =
      ap (λ b. lookup (same_name other) (if b then ms else m ∷ without same_name ms name)) e ∙ sym (passed other m ms (apart name other m.0 e n))
  without_by name other m ms false e n rest =
      ap (λ b. lookup (same_name other) (if b then ms else m ∷ without same_name ms name)) e ∙ ap (chosen (same_name other m.0) (Some m.1)) rest

  pub without_other : (name other : Name) (ms : List (Name × X)) → same_name name other ≡ false → lookup (same_name other) (without same_name ms name) ≡ lookup (same_name other) ms
  without_other name other [] n = refl
  without_other name other (m ∷ ms) n = without_by name other m ms (same_name name m.0) refl n (without_other name other ms n)

-- ---- cells

defined_cells_by : (c : Name × CellsRecord) (cells : List (Name × CellsRecord)) (name : Name) (formula : Formula) (b : Bool) → same_name name c.0 ≡ b → define same_name cells name (record { formula = formula; allow_none = or_false (lookup (same_name name) cells) }) ≡ define_cells cells name formula → define same_name (c ∷ cells) name (record { formula = formula; allow_none = or_false (lookup (same_name name) (c ∷ cells)) }) ≡ define_cells (c ∷ cells) name formula
defined_cells_by c cells name formula true e rest =
    let R : Bool → Bool → List (Name × CellsRecord) = λ b allow. if b then (c.0, record { formula = formula; allow_none = allow }) ∷ cells else c ∷ define same_name cells name (record { formula = formula; allow_none = allow }) in
    ap (λ (o : Option CellsRecord). R (same_name name c.0) (or_false o)) (taken name c cells e) ∙ ap (λ b. R b c.1.allow_none) e ∙ sym (ap (λ b. if b then (c.0, record { formula = formula; allow_none = c.1.allow_none }) ∷ cells else c ∷ define_cells cells name formula) e)
defined_cells_by c cells name formula false e rest =
    let R : Bool → Bool → List (Name × CellsRecord) = λ b allow. if b then (c.0, record { formula = formula; allow_none = allow }) ∷ cells else c ∷ define same_name cells name (record { formula = formula; allow_none = allow }) in
    ap (λ (o : Option CellsRecord). R (same_name name c.0) (or_false o)) (passed name c cells e) ∙ ap (λ b. R b (or_false (lookup (same_name name) cells))) e ∙ ap (λ (r : List (Name × CellsRecord)). c ∷ r) rest ∙ sym (ap (λ b. if b then (c.0, record { formula = formula; allow_none = c.1.allow_none }) ∷ cells else c ∷ define_cells cells name formula) e)

-- cells are defined as a member with the setting that there was
pub defined_cells : (cells : List (Name × CellsRecord)) (name : Name) (formula : Formula) → define same_name cells name (record { formula = formula; allow_none = or_false (lookup (same_name name) cells) }) ≡ define_cells cells name formula
defined_cells [] name formula = refl
defined_cells (c ∷ cells) name formula = defined_cells_by c cells name formula (same_name name c.0) refl (defined_cells cells name formula)

allowed_by : (c : Name × CellsRecord) (cells : List (Name × CellsRecord)) (name : Name) (flag : Bool) (old : CellsRecord) (b : Bool) → same_name name c.0 ≡ b → lookup (same_name name) (c ∷ cells) ≡ Some old → (lookup (same_name name) cells ≡ Some old → define same_name cells name (record { formula = old.formula; allow_none = flag }) ≡ set_allow cells name flag) → define same_name (c ∷ cells) name (record { formula = old.formula; allow_none = flag }) ≡ set_allow (c ∷ cells) name flag
allowed_by c cells name flag old true e at rest =
    let same : c.1 ≡ old = same_Some c.1 old (sym (taken name c cells e) ∙ at) in
    ap (λ b. if b then (c.0, record { formula = old.formula; allow_none = flag }) ∷ cells else c ∷ define same_name cells name (record { formula = old.formula; allow_none = flag })) e ∙
    ap (λ (r : CellsRecord). (c.0, record { formula = r.formula; allow_none = flag }) ∷ cells) (sym same) ∙
    sym (ap (λ b. if b then (c.0, record { formula = c.1.formula; allow_none = flag }) ∷ cells else c ∷ set_allow cells name flag) e)
allowed_by c cells name flag old false e at rest =
    ap (λ b. if b then (c.0, record { formula = old.formula; allow_none = flag }) ∷ cells else c ∷ define same_name cells name (record { formula = old.formula; allow_none = flag })) e ∙
    ap (λ (r : List (Name × CellsRecord)). c ∷ r) (rest (sym (passed name c cells e) ∙ at)) ∙
    sym (ap (λ b. if b then (c.0, record { formula = c.1.formula; allow_none = flag }) ∷ cells else c ∷ set_allow cells name flag) e)

-- a setting is changed as cells are defined again with their formula
pub allowed : (cells : List (Name × CellsRecord)) (name : Name) (flag : Bool) (old : CellsRecord) → lookup (same_name name) cells ≡ Some old → define same_name cells name (record { formula = old.formula; allow_none = flag }) ≡ set_allow cells name flag
allowed [] name flag old at = absurd (let f : None ≡ Some old = at in cc)
allowed (c ∷ cells) name flag old at = allowed_by c cells name flag old (same_name name c.0) refl at (allowed cells name flag old)

-- cells that are made with these parts are as `define_cells` says
pub made_cells : (old cells after : List (Name × CellsRecord)) (name name' : Name) (formula formula' : Formula) (allow : Bool) → cells ≡ old → name' ≡ name → formula' ≡ formula → allow ≡ or_false (lookup (same_name name) old) → after ≡ define same_name cells name' (record { formula = formula'; allow_none = allow }) → after ≡ define_cells old name formula
made_cells old cells after name name' formula formula' allow c n f a e =
    e ∙ ap (λ (z : List (Name × CellsRecord)). define same_name z name' (record { formula = formula'; allow_none = allow })) c ∙
    ap (λ (z : Name). define same_name old z (record { formula = formula'; allow_none = allow })) n ∙
    ap (λ (z : Formula). define same_name old name (record { formula = z; allow_none = allow })) f ∙
    ap (λ (z : Bool). define same_name old name (record { formula = formula; allow_none = z })) a ∙ defined_cells old name formula

pub set_cells : (old cells after : List (Name × CellsRecord)) (name name' : Name) (formula : Formula) (was : CellsRecord) (flag : Bool) → cells ≡ old → name' ≡ name → formula ≡ was.formula → Some was ≡ lookup (same_name name) old → after ≡ define same_name cells name' (record { formula = formula; allow_none = flag }) → after ≡ set_allow old name flag
set_cells old cells after name name' formula was flag c n f at e =
    e ∙ ap (λ (z : List (Name × CellsRecord)). define same_name z name' (record { formula = formula; allow_none = flag })) c ∙
    ap (λ (z : Name). define same_name old z (record { formula = formula; allow_none = flag })) n ∙
    ap (λ (z : Formula). define same_name old name (record { formula = z; allow_none = flag })) f ∙ allowed old name flag was (sym at)
