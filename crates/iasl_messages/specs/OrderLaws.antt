-- A list has one ascending order, where only equal elements tie.
use Rattle.std.proofs.Common.{◌≡◌, ℕ, suc, ◌+◌, ◌<◌, Bool, true, false, cond, List, [], ◌∷◌, get_or, refl, sym, ap, subst, ◌∙◌, arith}
use Rattle.std.proofs.Common.{Ordering, Less, Equal, Greater}
use Rattle.std.specs.List.{All, sum_by}
use Rattle.std.specs.List.Sorted.{IsPermutation, IsSortedBy, IsSorted}
use Rattle.std.specs.Ordering.{nat_cmp, ordering_then, ordering_reverse, is_lt, is_eq}
use Rattle.std.specs.Cmp.{IsTotalOrder, IsStrictWeakOrder}
use Rattle.std.specs.Cmp.Lexicographic.{slice_cmp}
use Rattle.std.specs.FinMap.{IsAntisymmetric, nat_cmp-IsAntisymmetric, slice_cmp-IsAntisymmetric}
use Rattle.std.proofs.lemmas.Cmp.{then_total, on_total, nat_cmp_total, nat_list_cmp_total}
use Rattle.std.proofs.lemmas.List.Elements.{All-head, All-tail, All-cons}
use Rattle.std.proofs.lemmas.List.Sums.{sum_by-cons}
use Rattle.std.proofs.lemmas.List.Sorted.{ranks_by, sorted_far, All-permutation, IsPermutation-refl, IsPermutation-cons}
use Rattle.std.proofs.lemmas.List.Sorted.{IsPermutation-trans, IsPermutation-middle, sum_by-IsPermutation}
use Rattle.iasl_messages.specs.declared.place.Place.{Place}
use Rattle.iasl_messages.specs.declared.message.Message.{Message}
use Rattle.iasl_messages.specs.Order.{place_order, message_order, inserted, ascending, sorted_messages}

module _ {X : Type 0} (order : X → X → Ordering) where
  abbrev pub less : X → X → Bool
  less x y = is_lt (order x y)

  -- no element is less than one before it
  abbrev pub Ascends : List X → Type 0
  Ascends [] = Unit {0}
  Ascends (x ∷ xs) = All (λ y. less y x ≡ false) xs × Ascends xs

  -- 1 where two elements tie
  abbrev tied : X → X → ℕ
  tied x y = cond (is_eq (order x y)) 1 0

  -- ---- the definition's list

  inserted-IsPermutation : (x : X) (ys : List X) → IsPermutation (x ∷ ys) (inserted order x ys)
  unfolding inserted
  inserted-IsPermutation x [] = IsPermutation-refl (x ∷ [])
  inserted-IsPermutation x (y ∷ ys) =
      elim (is_lt (order y x)) as (λ b. IsPermutation (x ∷ y ∷ ys) (cond b (y ∷ inserted order x ys) (x ∷ y ∷ ys))) [
        | true ↦ IsPermutation-trans (x ∷ y ∷ ys) (y ∷ x ∷ ys) (y ∷ inserted order x ys) (IsPermutation-middle (x ∷ []) y ys)
            (IsPermutation-cons y (x ∷ ys) (inserted order x ys) (inserted-IsPermutation x ys))
        | false ↦ IsPermutation-refl (x ∷ y ∷ ys)
      ]

  pub ascending-IsPermutation : (xs : List X) → IsPermutation xs (ascending order xs)
  unfolding ascending
  ascending-IsPermutation [] = IsPermutation-refl []
  ascending-IsPermutation (x ∷ xs) = IsPermutation-trans (x ∷ xs) (x ∷ ascending order xs) (inserted order x (ascending order xs))
      (IsPermutation-cons x xs (ascending order xs) (ascending-IsPermutation xs)) (inserted-IsPermutation x (ascending order xs))

  module _ (total : IsTotalOrder order) where
    pub weak : IsStrictWeakOrder less
    weak = ranks_by total (λ (x : X). x)

    inserted-Ascends : (x : X) (ys : List X) → Ascends ys → Ascends (inserted order x ys)
    unfolding inserted
    inserted-Ascends x [] up = ((λ k d h. absurd (omega arith)), tt)
    inserted-Ascends x (y ∷ ys) up =
        elim (is_lt (order y x)) as (λ b. is_lt (order y x) ≡ b → Ascends (cond b (y ∷ inserted order x ys) (x ∷ y ∷ ys))) [
          | true ↦ λ e. (
            All-permutation (λ z. less z y ≡ false) (x ∷ ys) (inserted order x ys) (inserted-IsPermutation x ys)
                (All-cons (λ z. less z y ≡ false) x ys (weak.one_way y x e) up.0),
            inserted-Ascends x ys up.1,
          )
          | false ↦ λ e. (All-cons (λ z. less z x ≡ false) y ys e (λ k d h. weak.chain (get_or ys k d) y x (up.0 k d h) e), up)
        ] refl

    pub ascending-Ascends : (xs : List X) → Ascends (ascending order xs)
    unfolding ascending
    ascending-Ascends [] = tt
    ascending-Ascends (x ∷ xs) = inserted-Ascends x (ascending order xs) (ascending-Ascends xs)

    -- ---- one order

    pub Ascends-from_sorted : (xs : List X) → IsSortedBy less xs → Ascends xs
    Ascends-from_sorted [] up = tt
    Ascends-from_sorted (x ∷ xs) up = (
      (λ k d h. sorted_far less weak (x ∷ xs) up 0 (suc k) d (omega arith) (omega arith)),
      Ascends-from_sorted xs (λ k d a h.
          let e : suc k + 1 ≡ suc (k + 1) = omega arith in
          subst (λ n. less (get_or (x ∷ xs) n d) (get_or xs k d) ≡ false) e (up (suc k) d (omega arith) (omega arith))),
    )

    module _ (same : IsAntisymmetric order) where
      -- what holds of all elements holds of one that ties with some
      of_tied : (P : X → Type 0) (x : X) (ys : List X) → All P ys → 0 < sum_by (tied x) ys → P x
      of_tied P x [] all some = absurd (omega arith)
      of_tied P x (y ∷ ys) all some =
          let rest : sum_by (tied x) (y ∷ ys) ≡ tied x y + sum_by (tied x) ys = sum_by-cons (tied x) y ys in
          elim (order x y) as (λ r. order x y ≡ r → P x) [
            | Less ↦ λ e. of_tied P x ys (All-tail P y ys all) (let none : tied x y ≡ 0 = ap (λ r. cond (is_eq r) 1 0) e in omega arith)
            | Equal ↦ λ e. subst P (sym (same x y e)) (All-head P y ys all)
            | Greater ↦ λ e. of_tied P x ys (All-tail P y ys all) (let none : tied x y ≡ 0 = ap (λ r. cond (is_eq r) 1 0) e in omega arith)
          ] refl

      not_less_itself : (x : X) → less x x ≡ false
      not_less_itself x = elim (less x x) as (λ b. less x x ≡ b → b ≡ false) [ true ↦ λ e. sym e ∙ weak.one_way x x e | false ↦ λ e. refl ]
          refl

      ties_itself : (x : X) → tied x x ≡ 1
      ties_itself x = elim (order x x) as (λ r. order x x ≡ r → ◌≡◌ {A = ℕ} (cond (is_eq r) 1 0) 1) [
        | Less ↦ λ e. absurd (let h : true ≡ false = sym (ap is_lt e) ∙ not_less_itself x in cc)
        | Equal ↦ λ e. refl
        | Greater ↦ λ e. absurd (let h : true ≡ false = ap (λ r. is_lt (ordering_reverse r)) (sym e) ∙ ap is_lt (sym (total.antisymm x x))
            ∙ not_less_itself x in cc)
      ] refl

      -- the first of an ascending list is not above an element
      first_least : (x y : X) (ys : List X) → Ascends (y ∷ ys) → 0 < sum_by (tied x) (y ∷ ys) → less x y ≡ false
      first_least x y ys up some = of_tied (λ z. less z y ≡ false) x (y ∷ ys)
          (All-cons (λ z. less z y ≡ false) y ys (not_less_itself y) up.0) some

      neither : (x y : X) → less x y ≡ false → less y x ≡ false → x ≡ y
      neither x y a b = same x y (elim (order x y) as (λ r. order x y ≡ r → r ≡ Equal) [
        | Less ↦ λ e. absurd (let h : true ≡ false = sym (ap is_lt e) ∙ a in cc)
        | Equal ↦ λ e. refl
        | Greater ↦ λ e. absurd (let h : true ≡ false = ap (λ r. is_lt (ordering_reverse r)) (sym e) ∙ ap is_lt (sym (total.antisymm y x))
            ∙ b in cc)
      ] refl)

      holds_first : (x : X) (xs : List X) → 0 < sum_by (tied x) (x ∷ xs)
      holds_first x xs = omega (arith, sum_by-cons (tied x) x xs, ties_itself x)

      pub one_ascending : (xs ys : List X) → Ascends xs → Ascends ys → ((z : X) → sum_by (tied z) ys ≡ sum_by (tied z) xs) → xs ≡ ys
      one_ascending [] [] a b e = refl
      one_ascending [] (y ∷ ys) a b e = absurd (let none : sum_by (tied y) (y ∷ ys) ≡ 0 = e y in omega (arith, holds_first y ys))
      one_ascending (x ∷ xs) [] a b e = absurd (let none : 0 ≡ sum_by (tied x) (x ∷ xs) = e x in omega (arith, holds_first x xs))
      one_ascending (x ∷ xs) (y ∷ ys) a b e =
          let xy : less x y ≡ false = first_least x y ys b (subst (λ n. 0 < n) (sym (e x)) (holds_first x xs)) in
          let yx : less y x ≡ false = first_least y x xs a (subst (λ n. 0 < n) (e y) (holds_first y ys)) in
          let head : x ≡ y = neither x y xy yx in
          let rest : (z : X) → sum_by (tied z) ys ≡ sum_by (tied z) xs = λ z.
          let here : tied z x ≡ tied z y = ap (tied z) head in
          omega (arith, e z, sum_by-cons (tied z) x xs, sum_by-cons (tied z) y ys) in
          λ i. head i ∷ one_ascending xs ys a.1 b.1 rest i

      pub sorted_is_ascending : (xs ys : List X) → IsPermutation xs ys → IsSortedBy less ys → ys ≡ ascending order xs
      sorted_is_ascending xs ys moved up =
          one_ascending ys (ascending order xs) (Ascends-from_sorted ys up) (ascending-Ascends xs) (λ z.
          sum_by-IsPermutation (tied z) xs (ascending order xs) (ascending-IsPermutation xs)
          ∙ sym (sum_by-IsPermutation (tied z) xs ys moved))

-- ---- messages

place_total : IsTotalOrder place_order
place_total = then_total (on_total (λ (p : Place). p.file) nat_cmp_total)
    (then_total (on_total (λ (p : Place). p.line) nat_cmp_total) (on_total (λ (p : Place). p.column) nat_cmp_total))

pub message_total : IsTotalOrder message_order
message_total = then_total (on_total (λ (m : Message). m.place) place_total)
    (then_total (on_total (λ (m : Message). m.number) nat_cmp_total) (on_total (λ (m : Message). m.name) nat_list_cmp_total))

both_equal : (r s : Ordering) → ordering_then r s ≡ Equal → (r ≡ Equal) × (s ≡ Equal)
both_equal Less s e = absurd cc
both_equal Equal s e = (refl, e)
both_equal Greater s e = absurd cc

place_same : IsAntisymmetric place_order
place_same a b e =
    let first = both_equal (nat_cmp a.file b.file) (ordering_then (nat_cmp a.line b.line) (nat_cmp a.column b.column)) e in
    let second = both_equal (nat_cmp a.line b.line) (nat_cmp a.column b.column) first.1 in
    λ i. record {
      file = nat_cmp-IsAntisymmetric a.file b.file first.0 i;
      line = nat_cmp-IsAntisymmetric a.line b.line second.0 i;
      column =
          nat_cmp-IsAntisymmetric a.column b.column second.1 i;
    }

-- only equal messages tie
pub message_same : IsAntisymmetric message_order
message_same a b e =
    let first = both_equal (place_order a.place b.place) (ordering_then (nat_cmp a.number b.number) (slice_cmp nat_cmp a.name b.name)) e in
    let second = both_equal (nat_cmp a.number b.number) (slice_cmp nat_cmp a.name b.name) first.1 in
    λ i. record {
      number = nat_cmp-IsAntisymmetric a.number b.number second.0 i;
      place = place_same a.place b.place first.0 i;
      name =
          slice_cmp-IsAntisymmetric nat_cmp-IsAntisymmetric a.name b.name second.1 i;
    }

-- what is sorted is the definition's list
pub sorted_is : (before after : List Message) → IsPermutation before after → IsSorted message_order after → after ≡ sorted_messages before
sorted_is before after moved up = sorted_is_ascending message_order message_total message_same before after moved up

-- the definition's list has the same messages
pub sorted_messages-IsPermutation : (messages : List Message) → IsPermutation messages (sorted_messages messages)
sorted_messages-IsPermutation messages = ascending-IsPermutation message_order messages
