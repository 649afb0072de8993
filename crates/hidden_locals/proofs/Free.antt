-- The Locals that a method does not name: they are small, and each is another.
use Rattle.std.proofs.Common.{◌≡◌, ℕ, zero, suc, ◌+◌, ◌<◌, ◌≤◌, Bool, true, false, List, [], ◌∷◌, length, refl, ap, ◌∙◌, arith}
use Rattle.std.specs.Prelude.{if◌then◌else◌, not, nat_eq, ◌||◌, filter}
use Rattle.std.proofs.lemmas.Bool.Decides.{nat_tests}
use Rattle.hidden_locals.specs.Locals.{is_named}
use Rattle.hidden_locals.specs.Turns.{others, nth}

-- numbers that rise from one on, and stay below another
abbrev Rising : ℕ → ℕ → List ℕ → Type 0
Rising least bound [] = Unit {0}
Rising least bound (x ∷ xs) = (least ≤ x) × (x < bound) × Rising (suc x) bound xs

rising_less : (a b bound : ℕ) (xs : List ℕ) → a ≤ b → Rising b bound xs → Rising a bound xs
rising_less a b bound [] le h = tt
rising_less a b bound (x ∷ xs) le h = (omega (arith, le, h.0), h.1, h.2)

rising_filter : (p : ℕ → Bool) (least bound : ℕ) (xs : List ℕ) → Rising least bound xs → Rising least bound (filter p xs)
rising_filter p least bound [] h = tt
rising_filter p least bound (x ∷ xs) h = by_test (p x) (rising_filter p (suc x) bound xs h.2)
  where
    by_test : (c : Bool) → Rising (suc x) bound (filter p xs) → Rising least bound (if c then x ∷ filter p xs else filter p xs)
    by_test true r = (h.0, h.1, r)
    by_test false r = rising_less least (suc x) bound (filter p xs) (omega (arith, h.0)) r

nth_within : (least bound : ℕ) (xs : List ℕ) (i : ℕ) → Rising least bound xs → i < length xs → (least ≤ nth xs i) × (nth xs i < bound)
nth_within least bound [] i h lt = absurd (omega (arith, lt))
nth_within least bound (x ∷ xs) zero h lt = (h.0, h.1)
nth_within least bound (x ∷ xs) (suc i) h lt = let g = nth_within (suc x) bound xs i h.2 (omega (arith, lt)) in (omega (arith, g.0, h.0), g.1)

nth_rises : (least bound : ℕ) (xs : List ℕ) (i j : ℕ) → Rising least bound xs → i < j → j < length xs → nth xs i < nth xs j
nth_rises least bound [] i j h lt within = absurd (omega (arith, within))
nth_rises least bound (x ∷ xs) i zero h lt within = absurd (omega (arith, lt))
nth_rises least bound (x ∷ xs) zero (suc j) h lt within = let g = nth_within (suc x) bound xs j h.2 (omega (arith, within)) in omega (arith, g.0)
nth_rises least bound (x ∷ xs) (suc i) (suc j) h lt within = nth_rises (suc x) bound xs i j h.2 (omega (arith, lt)) (omega (arith, within))

nth_passes : (p : ℕ → Bool) (xs : List ℕ) (i : ℕ) → i < length (filter p xs) → p (nth (filter p xs) i) ≡ true
nth_passes p [] i lt = absurd (omega (arith, lt))
nth_passes p (x ∷ xs) i lt = by_test (p x) refl (λ j within. nth_passes p xs j within) i lt
  where
    by_test : (c : Bool) → p x ≡ c → ((j : ℕ) → j < length (filter p xs) → p (nth (filter p xs) j) ≡ true) → (i : ℕ) → i < length (if c then x ∷ filter p xs else filter p xs) → p (nth (if c then x ∷ filter p xs else filter p xs) i) ≡ true
    by_test true e go zero lt = e
    by_test true e go (suc i) lt = go i (omega (arith, lt))
    by_test false e go i lt = go i lt

others_rise : (named : List ℕ) → Rising 0 8 (others named)
others_rise named =
    rising_filter (λ i. not (is_named named i)) 0 8 (0 ∷ 1 ∷ 2 ∷ 3 ∷ 4 ∷ 5 ∷ 6 ∷ 7 ∷ [])
    (omega arith, omega arith, (omega arith, omega arith, (omega arith, omega arith, (omega arith, omega arith, (omega arith, omega arith, (omega arith, omega arith, (omega arith, omega arith, (omega arith, omega arith, tt))))))))

pub others_small : (named : List ℕ) (i : ℕ) → i < length (others named) → nth (others named) i < 8
others_small named i lt = (nth_within 0 8 (others named) i (others_rise named) lt).1

pub others_differ : (named : List ℕ) (i j : ℕ) → i < j → j < length (others named) → nat_eq (nth (others named) j) (nth (others named) i) ≡ false
others_differ named i j lt within = let g = nth_rises 0 8 (others named) i j (others_rise named) lt within in by_test (nat_eq (nth (others named) j) (nth (others named) i)) refl g
  where
    by_test : (c : Bool) → nat_eq (nth (others named) j) (nth (others named) i) ≡ c → nth (others named) i < nth (others named) j → c ≡ false
    by_test true e g = absurd (let same : nth (others named) j ≡ nth (others named) i = grind (arith, nat_tests, e) in omega (arith, same, g))
    by_test false e g = refl

not_true : (b : Bool) → not b ≡ true → b ≡ false
not_true true e = absurd (grind arith)
not_true false e = refl

pub others_unnamed : (named : List ℕ) (i : ℕ) → i < length (others named) → is_named named (nth (others named) i) ≡ false
others_unnamed named i lt = not_true (is_named named (nth (others named) i)) (nth_passes (λ i. not (is_named named i)) (0 ∷ 1 ∷ 2 ∷ 3 ∷ 4 ∷ 5 ∷ 6 ∷ 7 ∷ []) i lt)

-- a number past all Locals and all that are named
abbrev pub past : List ℕ → ℕ
past [] = 8
past (x ∷ xs) = suc x + past xs

pub past_all : (xs : List ℕ) → 8 ≤ past xs
past_all [] = omega arith
past_all (x ∷ xs) = let g = past_all xs in omega (arith, g)

less_differs : (n x : ℕ) → x < n → nat_eq n x ≡ false
less_differs n x lt = by_test (nat_eq n x) refl
  where
    by_test : (c : Bool) → nat_eq n x ≡ c → c ≡ false
    by_test true e = absurd (let same : n ≡ x = grind (arith, nat_tests, e) in omega (arith, same, lt))
    by_test false e = refl

past_unnamed : (xs : List ℕ) (n : ℕ) → past xs ≤ n → is_named xs n ≡ false
past_unnamed [] n h = refl
past_unnamed (x ∷ xs) n h = ap (λ b. b || is_named xs n) (less_differs n x (omega (arith, h))) ∙ past_unnamed xs n (omega (arith, h))

pub unnamed_past : (xs : List ℕ) → is_named xs (past xs) ≡ false
unnamed_past xs = past_unnamed xs (past xs) (omega arith)

pub small_differs : (xs : List ℕ) (i : ℕ) → i < 8 → nat_eq (past xs) i ≡ false
small_differs xs i lt = less_differs (past xs) i (let g = past_all xs in omega (arith, g, lt))
