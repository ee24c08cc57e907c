-- How what comes of an instruction goes on past look-ups.
use Rattle.std.proofs.Common.{◌≡◌, ◌∙◌, ℕ, Result, Ok, Err, sym, ap}
use Rattle.mx_value.specs.declared.read.Read.{Read}
use Rattle.mx_edit.specs.declared.key.Key.{Key}
use Rattle.mx_edit.specs.declared.key.KeyResult.{KeyResult}
use Rattle.mx_ops.specs.declared.op.OpRefusal.{OpRefusal}
use Rattle.mx_ops.specs.declared.op.OpRefusal.TheVariants as refusal
use Rattle.mx_code_law.specs.States.{Home, Next, Look, Note}
use Rattle.mx_stack.specs.Came.{Continues}
use Rattle.mx_read_set.specs.Seen.{Seen, with_key, with_read}
use Rattle.mx_read_set.specs.Passed.{passed}
use Rattle.mx_lookup.specs.Goes.{Goes}

module _ (look : Key → KeyResult) (h : Home) (line : ℕ) where
  module _ {X : Type 0} (to : X → Next) where
    -- nothing is looked up
    pub goes_still : (r : Result X OpRefusal) (next : Next) (seen : Seen) → Continues r h line to next → Goes look r h line to next seen seen
    goes_still (Ok x) next seen e = ap (λ (n : Next). passed look n seen) e
    goes_still (Err (refusal.Fault kind)) next seen e = ap (λ (n : Next). passed look n seen) e
    goes_still (Err refusal.NoMemory) next seen e = tt

    -- something was looked up or noted before
    pub goes_behind : (r : Result X OpRefusal) (next more : Next) (first old new : Seen) → passed look next first ≡ passed look more old → Goes look r h line to more old new → Goes look r h line to next first new
    goes_behind (Ok x) next more first old new e g = e ∙ g
    goes_behind (Err (refusal.Fault kind)) next more first old new e g = e ∙ g
    goes_behind (Err refusal.NoMemory) next more first old new e g = tt

    -- a key is looked up first
    pub goes_looked : (r : Result X OpRefusal) (key : Key) (q : KeyResult) (f : KeyResult → Next) (first old new : Seen) → look key ≡ q → old ≡ with_key key first → Goes look r h line to (f q) old new → Goes look r h line to (Look key f) first new
    goes_looked r key q f first old new e s g =
        goes_behind r (Look key f) (f q) first old new
        (ap (λ (x : KeyResult). passed look (f x) (with_key key first)) e ∙ ap (λ (x : Seen). passed look (f q) x) (sym s)) g

    -- a reference is noted first
    pub goes_noted : (r : Result X OpRefusal) (read : Read) (next : Next) (first old new : Seen) → old ≡ with_read read first → Goes look r h line to next old new → Goes look r h line to (Note read next) first new
    goes_noted r read next first old new s g = goes_behind r (Note read next) next first old new (ap (λ (x : Seen). passed look next x) (sym s)) g
