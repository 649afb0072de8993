-- Values that are noted one after another.
use Rattle.std.proofs.Common.{◌≡◌, ℕ, suc, ◌+◌, ◌<◌, ◌≤◌, Bool, true, false, List, [], ◌∷◌, ◌++◌, map, length, get_or, drop, Option, Some, None, append_assoc, append-nil, refl, sym, ap, subst, ◌∙◌, arith}
use Rattle.std.specs.Prelude.{slice_get, if◌then◌else◌, ◌||◌, not}
use Rattle.std.specs.List.{list_any}
use Rattle.std.proofs.lemmas.List.{map-append}
use Rattle.indexmap.specs.IndexSet.{insert_key}
use Rattle.iasl_messages.specs.declared.place.Place.{Place}
use Rattle.iasl_messages.specs.declared.message.Message.{Message}
use Rattle.acpi_values.specs.declared.width.Width.{Width}
use Rattle.asl_tree.specs.declared.term.Node.{Node}
use Rattle.term_plans.specs.Plans.{Plan, plan_of, plans_of}
use Rattle.statement_checks.proofs.Walk.{plans_at, no_more}
use Rattle.switch_checks.specs.declared.value.CaseValue as D
use Rattle.switch_checks.specs.Told.{told}
use Rattle.switch_checks.specs.Values.{CaseValue, is_same, shown, occurs}
use Rattle.switch_checks.specs.Repeats.{Found, found_in, found_at, with_value, with_all, repeats, Notes, members_at, first_members, repeated_values, term_repeats}

-- ---- sets of values

module _ (eq : D.CaseValue → D.CaseValue → Bool) (eq_is : (a b : D.CaseValue) → eq a b ≡ is_same (shown a) (shown b)) where
  pub same_member : (k : D.CaseValue) (ks : List D.CaseValue) → list_any (eq k) ks ≡ occurs (shown k) (map shown ks)
  same_member k [] = refl
  same_member k (x ∷ ks) = ap (λ b. b || list_any (eq k) ks) (eq_is k x) ∙ ap (λ b. is_same (shown k) (shown x) || b) (same_member k ks)

  pub same_keys : (k : D.CaseValue) (ks : List D.CaseValue) → map shown (insert_key eq ks k) ≡ with_value (shown k) (map shown ks)
  same_keys k ks = by_any (list_any (eq k) ks) ∙ ap (λ b. if b then map shown ks else map shown ks ++ shown k ∷ []) (same_member k ks)
    where
      by_any : (b : Bool) → map shown (if b then ks else ks ++ k ∷ []) ≡ (if b then map shown ks else map shown ks ++ shown k ∷ [])
      by_any true = refl
      by_any false = map-append shown ks (k ∷ [])

  pub noted_one : (k : D.CaseValue) (keys keys' : List D.CaseValue) (place : Place) (new : Bool) (out out' : List Message) → keys' ≡ insert_key eq keys k → new ≡ not (list_any (eq k) keys) → out' ≡ out ++ told (not new) 6053 place
      → Notes (found_at place (Some (shown k))) (map shown keys) (map shown keys') out out'
  noted_one k keys keys' place new out out' inserted fresh tells = (
    ap (map shown) inserted ∙ same_keys k keys,
    tells ∙ ap (λ b. out ++ told b 6053 place) (ap not fresh ∙ twice (list_any (eq k) keys) ∙ same_member k keys) ∙ ap (λ ms. out ++ ms) (sym (append-nil (told (occurs (shown k) (map shown keys)) 6053 place))),
  )
    where
      twice : (b : Bool) → not (not b) ≡ b
      twice true = refl
      twice false = refl

-- ---- one part after another

pub none_noted : (vs : List CaseValue) (ms : List Message) → Notes [] vs vs ms ms
none_noted vs ms = (refl, sym (append-nil ms))

with_more : (xs ys : List Found) (vs : List CaseValue) → with_all vs (xs ++ ys) ≡ with_all (with_all vs xs) ys
with_more [] ys vs = refl
with_more (x ∷ xs) ys vs = with_more xs ys (with_value x.value vs)

repeats_more : (xs ys : List Found) (vs : List CaseValue) → repeats vs (xs ++ ys) ≡ repeats vs xs ++ repeats (with_all vs xs) ys
repeats_more [] ys vs = refl
repeats_more (x ∷ xs) ys vs =
    let own = told (occurs x.value vs) 6053 x.place in
    ap (λ ms. own ++ ms) (repeats_more xs ys (with_value x.value vs)) ∙ sym (append_assoc own (repeats (with_value x.value vs) xs) (repeats (with_all (with_value x.value vs) xs) ys))

pub noted_then : (xs ys : List Found) (vs ws us : List CaseValue) (ms ns os : List Message) → Notes xs vs ws ms ns → Notes ys ws us ns os → Notes (xs ++ ys) vs us ms os
noted_then xs ys vs ws us ms ns os a b = (
  b.0 ∙ ap (λ zs. with_all zs ys) a.0 ∙ sym (with_more xs ys vs),
  b.1 ∙ ap (λ zs. zs ++ repeats ws ys) a.1 ∙ ap (λ zs. (ms ++ repeats vs xs) ++ repeats zs ys) a.0 ∙ append_assoc ms (repeats vs xs) (repeats (with_all vs xs) ys) ∙ ap (λ zs. ms ++ zs) (sym (repeats_more xs ys vs)),
)

pub noted_as : (xs ys : List Found) (vs ws : List CaseValue) (ms ns : List Message) → ys ≡ xs → Notes xs vs ws ms ns → Notes ys vs ws ms ns
noted_as xs ys vs ws ms ns e h = subst (λ fs. Notes fs vs ws ms ns) (sym e) h

-- ---- nodes one after another

module _ (f : Place → Plan → List Found) where
  -- whatever the nodes behind some come to, all come to with them
  abbrev pub Remains : List Node → ℕ → List CaseValue → List CaseValue → List Message → List Message → Type 0
  Remains ns i vs now ms out = (us : List CaseValue) (os : List Message) → Notes (found_in f (plans_of (drop i ns))) now us out os → Notes (found_in f (plans_of ns)) vs us ms os

  whole : (ns : List Node) → plans_of (drop 0 ns) ≡ plans_of ns
  whole [] = refl
  whole (n ∷ ns) = refl

  pub all_remain : (ns : List Node) (vs : List CaseValue) (ms : List Message) → Remains ns 0 vs vs ms ms
  all_remain ns vs ms = λ us os h. noted_as (found_in f (plans_of (drop 0 ns))) (found_in f (plans_of ns)) vs us ms os (ap (found_in f) (sym (whole ns))) h

  pub next_noted : (ns : List Node) (i : ℕ) (node : Node) (vs now next : List CaseValue) (ms out out' : List Message) → i < length ns → node ≡ get_or ns i node
      → Remains ns i vs now ms out → Notes (f node.place (plan_of node.term)) now next out out' → Remains ns (i + 1) vs next ms out'
  next_noted ns i node vs now next ms out out' lt e before noted =
      let more : i + 1 ≡ suc i = omega arith in
      λ us os h. before us os
      (noted_as (f node.place (plan_of node.term) ++ found_in f (plans_of (drop (suc i) ns))) (found_in f (plans_of (drop i ns))) now us out os (ap (found_in f) (plans_at ns i node lt e))
      (noted_then (f node.place (plan_of node.term)) (found_in f (plans_of (drop (suc i) ns))) now next us out out' os noted (subst (λ k. Notes (found_in f (plans_of (drop k ns))) next us out' os) more h)))

  pub all_noted : (ns : List Node) (i : ℕ) (vs now : List CaseValue) (ms out : List Message) → length ns ≤ i → Remains ns i vs now ms out → Notes (found_in f (plans_of ns)) vs now ms out
  all_noted ns i vs now ms out le before = before now out (noted_as [] (found_in f (plans_of (drop i ns))) now now out out (ap (found_in f) (no_more ns i le)) (none_noted now out))

-- ---- the first argument

module _ (width : Width) where
  abbrev or_node : Node → Option Node → Node
  or_node node None = node
  or_node node (Some other) = other

  pub first_none : (ns : List Node) → slice_get ns 0 ≡ None → first_members width (plans_of ns) ≡ []
  unfolding plans_of
  first_none [] e = refl
  first_none (node ∷ ns) e = absurd (grind arith)

  pub first_there : (ns : List Node) (node : Node) → slice_get ns 0 ≡ Some node → first_members width (plans_of ns) ≡ members_at width node.place (plan_of node.term)
  unfolding plans_of
  first_there [] node e = absurd (grind arith)
  first_there (n ∷ ns) node e = ap (λ o. members_at width (or_node n o).place (plan_of (or_node n o).term)) e

  -- ---- the terms of a block

  -- some first terms are read, and those behind them are not yet
  abbrev pub Left : List Node → ℕ → List Message → List Message → Type 0
  Left ns i initial now = now ++ repeated_values width (plans_of (drop i ns)) ≡ initial ++ repeated_values width (plans_of ns)

  pub next_read : (ns : List Node) (i : ℕ) (node : Node) (initial now next : List Message) → i < length ns → node ≡ get_or ns i node → Left ns i initial now → next ≡ now ++ term_repeats width (plan_of node.term) → Left ns (i + 1) initial next
  next_read ns i node initial now next lt e before tells =
      let more : i + 1 ≡ suc i = omega arith in
      let own = term_repeats width (plan_of node.term) in
      ap (λ k. next ++ repeated_values width (plans_of (drop k ns))) more
      ∙ ap (λ ms. ms ++ repeated_values width (plans_of (drop (suc i) ns))) tells
      ∙ append_assoc now own (repeated_values width (plans_of (drop (suc i) ns)))
      ∙ ap (λ ps. now ++ repeated_values width ps) (sym (plans_at ns i node lt e))
      ∙ before

  pub all_read : (ns : List Node) (i : ℕ) (initial now : List Message) → length ns ≤ i → Left ns i initial now → now ≡ initial ++ repeated_values width (plans_of ns)
  all_read ns i initial now le before = sym (append-nil now) ∙ ap (λ ps. now ++ repeated_values width ps) (sym (no_more ns i le)) ∙ before
