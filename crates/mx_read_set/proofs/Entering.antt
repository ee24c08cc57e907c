-- What is held by hash is what is looked through.
use Rattle.std.proofs.Common.{◌≡◌, ◌∙◌, Bool, false, ◌||◌, if◌then◌else◌, List, [], ◌∷◌, ◌++◌, refl, ap}
use Rattle.std.specs.Cmp.{IsEquivalence}
use Rattle.std.specs.List.{list_any}
use Rattle.indexmap.specs.IndexSet.{insert_key, insert_all}
use Rattle.mx_read_set.specs.Seen.{added}

all_push : {T : Type 0} (eq : T → T → Bool) (ks xs : List T) (x : T) → insert_all eq ks (xs ++ x ∷ []) ≡ insert_key eq (insert_all eq ks xs) x
all_push eq ks [] x = refl
all_push eq ks (y ∷ ys) x = all_push eq (insert_key eq ks y) ys x

module _ {T : Type 0} (eq : T → T → Bool) (laws : IsEquivalence eq) where
  -- sameness may be tested either way
  pub either_way : (xs : List T) (x : T) → list_any (eq x) xs ≡ list_any (λ y. eq y x) xs
  either_way [] x = refl
  either_way (y ∷ ys) x = λ j. laws.symm x y j || either_way ys x j

  -- a set takes an item in as a list does
  pub key_added : (xs : List T) (x : T) → insert_key eq xs x ≡ added eq xs x
  key_added xs x = ap (λ b. if b then xs else xs ++ x ∷ []) (either_way xs x)

  -- an item that is not there keeps each there once
  pub once_more : (xs : List T) (x : T) → insert_all eq [] xs ≡ xs → list_any (λ y. eq y x) xs ≡ false → insert_all eq [] (xs ++ x ∷ []) ≡ xs ++ x ∷ []
  once_more xs x once new =
      all_push eq [] xs x ∙ ap (λ ks. insert_key eq ks x) once ∙ key_added xs x ∙ ap (λ b. if b then xs else xs ++ x ∷ []) new
