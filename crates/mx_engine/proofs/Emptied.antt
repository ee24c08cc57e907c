-- A memo of which all is dropped.
use Rattle.std.proofs.Common.{◌≡◌, ℕ, List, [], inl, inr, refl}
use Rattle.mx_vertices.specs.Kept.{Kept, IsTouched, Here, IsToGo, Sifts, Done, Keeps, Drops}
use Rattle.mx_vertices.specs.Places.{Has}
use Rattle.mx_clear.specs.Scope.{is_any}

-- where each is out, none is left
none_left : (Out : ℕ → Type 0) (held kept : List Kept) → ((r : Kept) → Has held r → Out r.id) → Sifts Out held kept → kept ≡ []
none_left Out held kept out Done = refl
none_left Out held kept out (Keeps r rs ks not s) = absurd (not (out r (inl refl)))
none_left Out held kept out (Drops r rs ks gone s) = none_left Out rs ks (λ q h. out q (inr h)) s

-- a clearing of every node leaves none
pub all_dropped : (held kept : List Kept) → Sifts (IsTouched (IsToGo is_any) held) held kept → kept ≡ []
all_dropped held kept s = none_left (IsTouched (IsToGo is_any) held) held kept (λ r h. Here r h refl) s
