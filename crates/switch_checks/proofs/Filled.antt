-- Buffers are the same where their bytes are, filled with zeros.
use Rattle.std.proofs.Common.{◌≡◌, ℕ, zero, suc, ◌+◌, ◌-◌, ◌≤◌, Bool, true, false, List, [], ◌∷◌, ◌++◌, length, append_assoc, append-nil, length-append, refl, sym, ap, ◌∙◌, arith}
use Rattle.std.specs.Prelude.{nat_eq, nat_le, ◌&&◌, max, replicate, unwrap_or, Option}
use Rattle.std.specs.Str.{bytes_eq}
use Rattle.std.proofs.Math.Nat.{max-eq_left, max-eq_right}
use Rattle.std.proofs.lemmas.Bool.Decides.{nat_tests}
use Rattle.std.proofs.lemmas.List.{length-replicate}
use Rattle.std.proofs.lemmas.Slice.Eq.{bytes_eq-Decides}
use Rattle.switch_checks.specs.Values.{trimmed, trimmed_before, filled, buffer_of, is_same}
use Rattle.switch_checks.proofs.Bytes.{trimmed_end}

-- ---- bytes with zeros behind them

zeros : (n : ℕ) (xs : List ℕ) → trimmed (xs ++ replicate n 0) ≡ trimmed xs
zeros zero xs = ap trimmed (append-nil xs)
zeros (suc n) xs = ap trimmed (sym (append_assoc xs (0 ∷ []) (replicate n 0))) ∙ zeros n (xs ++ 0 ∷ []) ∙ trimmed_end xs

longest : (size count : ℕ) → count + (size - count) ≡ max size count
longest size count = by_order (nat_le count size) refl
  where
    by_order : (b : Bool) → nat_le count size ≡ b → count + (size - count) ≡ max size count
    by_order true e = let h : count ≤ size = grind (arith, nat_tests, e) in let same : count + (size - count) ≡ size = omega (arith, h) in same ∙ sym (max-eq_left h)
    by_order false e = let h : size ≤ count = grind (arith, nat_tests, e) in let same : count + (size - count) ≡ count = omega (arith, h) in same ∙ sym (max-eq_right h)

module _ (size : Option ℕ) (bytes : List ℕ) where
  filled_trimmed : trimmed (filled size bytes) ≡ trimmed bytes
  filled_trimmed = zeros (unwrap_or size 0 - length bytes) bytes

  filled_length : length (filled size bytes) ≡ max (unwrap_or size 0) (length bytes)
  filled_length =
      length-append bytes (replicate (unwrap_or size 0 - length bytes) 0) ∙ ap (λ n. length bytes + n) (length-replicate (unwrap_or size 0 - length bytes) 0) ∙ longest (unwrap_or size 0) (length bytes)

-- ---- bytes by their count and what is left of them

whole : (x : ℕ) (xs ts : List ℕ) → xs ≡ ts ++ replicate (length xs - length ts) 0 → x ∷ xs ≡ trimmed_before x ts ++ replicate (suc (length xs) - length (trimmed_before x ts)) 0
whole zero xs [] h = let more : suc (length xs - 0) ≡ suc (length xs) - 0 = omega arith in ap (λ us. 0 ∷ us) h ∙ ap (λ k. replicate k 0) more
whole zero xs (t ∷ ts) h = let same : length xs - length (t ∷ ts) ≡ suc (length xs) - length (0 ∷ t ∷ ts) = omega arith in ap (λ us. 0 ∷ us) h ∙ ap (λ k. 0 ∷ t ∷ ts ++ replicate k 0) same
whole (suc x) xs ts h = let same : length xs - length ts ≡ suc (length xs) - length (suc x ∷ ts) = omega arith in ap (λ us. suc x ∷ us) h ∙ ap (λ k. suc x ∷ ts ++ replicate k 0) same

rebuilt : (xs : List ℕ) → xs ≡ trimmed xs ++ replicate (length xs - length (trimmed xs)) 0
rebuilt [] = refl
rebuilt (x ∷ xs) = whole x xs (trimmed xs) (rebuilt xs)

same_lists : (xs ys : List ℕ) → length xs ≡ length ys → trimmed xs ≡ trimmed ys → xs ≡ ys
same_lists xs ys count left =
    rebuilt xs ∙ ap (λ n. trimmed xs ++ replicate (n - length (trimmed xs)) 0) count ∙ ap (λ ts. ts ++ replicate (length ys - length ts) 0) left ∙ sym (rebuilt ys)

both : (a b : Bool) → (a && b) ≡ true → (a ≡ true) × (b ≡ true)
both true b e = (refl, e)
both false b e = absurd (grind arith)

same_counted : (xs ys : List ℕ) → (nat_eq (length xs) (length ys) && bytes_eq (trimmed xs) (trimmed ys)) ≡ bytes_eq xs ys
same_counted xs ys = by_left (nat_eq (length xs) (length ys) && bytes_eq (trimmed xs) (trimmed ys)) (bytes_eq xs ys) refl refl
  where
    left_holds : bytes_eq xs ys ≡ true → (nat_eq (length xs) (length ys) && bytes_eq (trimmed xs) (trimmed ys)) ≡ true
    left_holds e =
        let same : xs ≡ ys = (bytes_eq-Decides xs ys).0 e in
        let counts : nat_eq (length xs) (length ys) ≡ true = let l : length xs ≡ length ys = ap length same in grind (arith, nat_tests, l) in
        ap (λ b. b && bytes_eq (trimmed xs) (trimmed ys)) counts ∙ (bytes_eq-Decides (trimmed xs) (trimmed ys)).1 (ap trimmed same)

    right_holds : (nat_eq (length xs) (length ys) && bytes_eq (trimmed xs) (trimmed ys)) ≡ true → bytes_eq xs ys ≡ true
    right_holds e =
        let parts = both (nat_eq (length xs) (length ys)) (bytes_eq (trimmed xs) (trimmed ys)) e in
        let counts : length xs ≡ length ys = let p = parts.0 in grind (arith, nat_tests, p) in
        (bytes_eq-Decides xs ys).1 (same_lists xs ys counts ((bytes_eq-Decides (trimmed xs) (trimmed ys)).0 parts.1))

    by_left : (a b : Bool) → (nat_eq (length xs) (length ys) && bytes_eq (trimmed xs) (trimmed ys)) ≡ a → bytes_eq xs ys ≡ b → (nat_eq (length xs) (length ys) && bytes_eq (trimmed xs) (trimmed ys)) ≡ bytes_eq xs ys
    by_left true b p q = p ∙ sym (right_holds p)
    by_left false true p q = left_holds q ∙ sym q
    by_left false false p q = p ∙ sym q

pub same_filled : (size other : Option ℕ) (bytes others : List ℕ) → is_same (buffer_of size bytes) (buffer_of other others) ≡ bytes_eq (filled size bytes) (filled other others)
same_filled size other bytes others =
    let xs = filled size bytes in
    let ys = filled other others in
    ap (λ n. nat_eq n (max (unwrap_or other 0) (length others)) && bytes_eq (trimmed bytes) (trimmed others)) (sym (filled_length size bytes))
    ∙ ap (λ n. nat_eq (length xs) n && bytes_eq (trimmed bytes) (trimmed others)) (sym (filled_length other others))
    ∙ ap (λ ts. nat_eq (length xs) (length ys) && bytes_eq ts (trimmed others)) (sym (filled_trimmed size bytes))
    ∙ ap (λ ts. nat_eq (length xs) (length ys) && bytes_eq (trimmed xs) ts) (sym (filled_trimmed other others))
    ∙ same_counted xs ys
