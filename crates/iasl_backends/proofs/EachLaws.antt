-- Lists whose members go over one after another.
use Rattle.std.specs.Prelude.{◌≡◌, ◌≢◌, ◌⊎◌, ℕ, ◌+◌, ◌<◌, ◌≤◌, List, length, get_or, slice_set, refl}
use Rattle.std.proofs.Common.{◌∙◌, sym, subst, arith, inl, inr}
use Rattle.std.proofs.lemmas.Bool.{cases_lt}
use Rattle.std.specs.Prelude.{take}
use Rattle.std.specs.List.{All}
use Rattle.std.proofs.lemmas.List.{get_or-set_same, get_or-set_other, get_or_default, length-set, take_all}
use Rattle.iasl_backends.specs.Each.{Each}

-- the first so many have gone over, and the others are as they were
pub record EachSoFar {X : Type 0} (R : X → X → Type 0) (i : ℕ) (old now : List X) : Type 0 where
  pub same_len : length now ≡ length old
  pub before : (k : ℕ) (d : X) → k < i → k < length old → R (get_or old k d) (get_or now k d)
  pub after : (k : ℕ) (d : X) → i ≤ k → get_or now k d ≡ get_or old k d

pub each_start : {X : Type 0} (R : X → X → Type 0) (xs : List X) → EachSoFar R 0 xs xs
each_start R xs = record { same_len = refl; before = λ k d h h'. absurd (omega arith); after = λ k d h. refl }

pub each_next : {X : Type 0} {R : X → X → Type 0} {i : ℕ} {old now : List X} (x y : X) → EachSoFar R i old now → i < length now → x ≡ get_or now i x → R x y → EachSoFar R (i + 1) old (slice_set now i y)
each_next {X} {R} {i} {old} {now} x y p h e r = record {
  same_len = length-set now i y ∙ p.same_len;
  before = λ k d h1 h2.
      elim (cases_lt k i) [
        | inr above ↦
            let same : k ≡ i = omega arith in
            let was : get_or old k d ≡ x = sym (p.after k d above) ∙ get_or_default now k d x (omega (arith, p.same_len)) ∙ rw same (sym e) in
            let is : get_or (slice_set now i y) k d ≡ y = rw same (get_or-set_same now i y d h) in
            rw (was, is) r
        | inl below ↦
            let other : k ≢ i = λ s. absurd (omega (arith, s)) in
            rw (get_or-set_other now i k y d other) (p.before k d below h2)
      ];
  after = λ k d h1. get_or-set_other now i k y d (λ s. absurd (omega arith)) ∙ p.after k d (omega arith);
}

pub each_done : {X : Type 0} {R : X → X → Type 0} {i : ℕ} {old now : List X} → EachSoFar R i old now → length old ≤ i → Each R old now
each_done p h = record { same_len = p.same_len; at = λ k d h1. p.before k d (omega arith) h1 }

-- where it stopped
pub each_stopped : {X : Type 0} {R Q : X → X → Type 0} {i : ℕ} {old now : List X} → EachSoFar R i old now → ((x y : X) → R x y → Q x y) → ((x : X) → Q x x) → Each Q old now
each_stopped {X} {R} {Q} {i} {old} {now} p weaker same = record {
  same_len = p.same_len;
  at = λ k d h.
      elim (cases_lt k i) [
        | inr above ↦ rw (p.after k d above) (same (get_or old k d))
        | inl below ↦ weaker (get_or old k d) (get_or now k d) (p.before k d below h)
      ];
}

pub each_same : {X : Type 0} {R : X → X → Type 0} (xs : List X) → ((x : X) → R x x) → Each R xs xs
each_same xs same = record { same_len = refl; at = λ k d h. same (get_or xs k d) }

pub each_then : {X : Type 0} {R Q S : X → X → Type 0} {a b c : List X} → ((x y z : X) → R x y → Q y z → S x z) → Each R a b → Each Q b c → Each S a c
each_then {X} {R} {Q} {S} {a} {b} {c} joins p q = record {
  same_len = q.same_len ∙ p.same_len;
  at = λ k d h. joins (get_or a k d) (get_or b k d) (get_or c k d) (p.at k d h) (q.at k d (omega (arith, h, p.same_len)));
}

-- what holds of the first members holds of all where there are no others
pub all_of_first : {X : Type 0} (P : X → Type 0) (i : ℕ) (xs : List X) → length xs ≤ i → All P (take i xs) → All P xs
all_of_first P i xs le all = subst (All P) (take_all i xs le) all
