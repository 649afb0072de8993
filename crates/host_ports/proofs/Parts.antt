-- Bytes that are written part by part.
use Rattle.std.proofs.Common.{◌≡◌, ◌+◌, ℕ, zero, suc, List, [], ◌∷◌, ◌++◌, append_assoc, take, drop, refl, sym, ap, ◌∙◌, arith}
use Rattle.std.specs.Prelude.{Option, Some, None}
use Rattle.std.specs.Io.KnownBytes.{Appends}

none_taken : (n : ℕ) → take {A = ℕ} n [] ≡ []
none_taken zero = refl
none_taken (suc n) = refl

taken_parts : (i n : ℕ) (xs : List ℕ) → take (i + n) xs ≡ take i xs ++ take n (drop i xs)
taken_parts zero n xs = let e : zero + n ≡ n = omega arith in ap (λ k. take k xs) e
taken_parts (suc i) n [] = none_taken (suc i + n) ∙ sym (none_taken n)
taken_parts (suc i) n (x ∷ xs) = let e : suc i + n ≡ suc (i + n) = omega arith in ap (λ k. take k (x ∷ xs)) e ∙ ap (λ ys. x ∷ ys) (taken_parts i n xs)

-- a part of so many bytes behind those that are written
pub appends_more : (old mid new : Option (List ℕ)) (bytes : List ℕ) (i n m : ℕ) → m ≡ n → Appends old mid (take i bytes) → Appends mid new (take m (drop i bytes)) → Appends old new (take (i + n) bytes)
appends_more None mid new bytes i n m e h k = tt
appends_more (Some xs) None new bytes i n m e h k = absurd h
appends_more (Some xs) (Some ys) None bytes i n m e h k = absurd k
appends_more (Some xs) (Some ys) (Some zs) bytes i n m e h k =
    k ∙ ap (λ j. ys ++ take j (drop i bytes)) e ∙ ap (λ us. us ++ take n (drop i bytes)) h ∙ append_assoc xs (take i bytes) (take n (drop i bytes)) ∙ ap (λ us. xs ++ us) (sym (taken_parts i n bytes))
