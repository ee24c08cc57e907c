-- Answers that are made of one part after the other.
use Rattle.std.proofs.Common.{◌≡◌, ℕ, ◌-◌, List, length, take, drop, Result, Ok, Err, refl, subst}
use Rattle.std.proofs.lemmas.List.{take_rest}
use Rattle.mx_words.specs.declared.command.Command.{Command}
use Rattle.mx_words.specs.declared.command.FormRefusal.{FormRefusal}
use Rattle.mx_words.specs.Texts.{head_length, formula_of}
use Rattle.mx_words.specs.Parts.{Answer, Sequel, Onward, Decides}

-- the first part is refused
pub stops : {A : Type 0} {First : Result A FormRefusal → Type 0} {Next : A → Answer → Type 0} (e : FormRefusal) → First (Err e) → Sequel First (Onward Next) (Err e)
stops e h = record { part = Err e; first = h; rest = refl }

-- the first part is there, and the last decides
pub decides : {A B : Type 0} {First : Result A FormRefusal → Type 0} {Last : A → B → Type 0} {done : A → B → Answer} (x : A) (r : B) (answer : Answer) → First (Ok x) → Last x r → answer ≡ done x r → Sequel First (Onward (λ t. Decides (Last t) (done t))) answer
decides x r answer h k e = record { part = Ok x; first = h; rest = record { part = r; first = k; rest = e } }

-- the text from the parenthesis on
pub behind_head : {R : Type 0} (Reads : List ℕ → R → Type 0) (text : List ℕ) (n : ℕ) (r : R) → n ≡ head_length text → Reads (take (length text - n) (drop n text)) r → Reads (formula_of text) r
behind_head Reads text n r count h = subst (λ (m : ℕ). Reads (drop m text) r) count (subst (λ (source : List ℕ). Reads source r) (take_rest text n) h)

pub last : {R : Type 0} {First : R → Type 0} {done : R → Answer} (r : R) (answer : Answer) → First r → answer ≡ done r → Decides First done answer
last r answer h e = record { part = r; first = h; rest = e }

-- the first part is there, and its tree decides
pub goes_on : {A : Type 0} {First : Result A FormRefusal → Type 0} {done : A → Answer} (x : A) (answer : Answer) → First (Ok x) → answer ≡ done x → Sequel First (Onward (λ t answer. answer ≡ done t)) answer
goes_on x answer h e = record { part = Ok x; first = h; rest = e }

abbrev pub okay : Command → Answer
okay c = Ok c
