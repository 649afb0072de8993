-- Nodes by their numbers, and what is said of them.
use Rattle.std.proofs.Common.{◌≡◌, ℕ, zero, suc, ◌+◌, ◌<◌, Bool, true, false, length, get_or, set, List, [], ◌∷◌, ◌++◌, append-nil, length-append, Option, Some, None, refl, sym, ap, ◌∙◌, arith}
use Rattle.std.specs.Prelude.{nat_eq, slice_get, ◌&&◌, if◌then◌else◌}
use Rattle.std.proofs.lemmas.Bool.{eqb-true}
use Rattle.std.proofs.lemmas.Bool.Decides.{nat_tests}
use Rattle.std.proofs.lemmas.List.{get_or-set_same, get_or-set_other}
use Rattle.acpi_state.specs.Outcomes.{choose}
use Rattle.asl_tree.specs.declared.term.Op.{Op}
use Rattle.asl_tree.specs.declared.term.Declaration.{Declaration}
use Rattle.asl_tree.specs.declared.term.NamedDescriptor.{NamedDescriptor}
use Rattle.term_plans.specs.Plans.{Plan, a_call, a_form, Plans, no_plans, plan, plan_at, join}
use Rattle.term_plans.specs.Plans.{named_of}
use Rattle.asl_numbers.specs.Numbers.{inside, nodes}
use Rattle.descriptor_fields.specs.Declaring.{has_terms, is_naming, declared_by}
use Rattle.descriptor_fields.specs.Nodes.{at_node, IsPut, SaysAt, SaysMore, named_first, named_in, named_from, own_entry, entries_inside, entries_among}

-- ---- what is said of nodes

or_none : {A : Type 0} (o : Option A) → o ≡ choose o None Some
or_none None = refl
or_none (Some x) = refl

said_append : {A : Type 0} (xs ys : List (ℕ × A)) (node : ℕ) → at_node (xs ++ ys) node ≡ choose (at_node xs node) (at_node ys node) Some
said_append {A} [] ys node = refl
said_append {A} (x ∷ xs) ys node = by_same (nat_eq x.0 node) (said_append xs ys node)
  where
    by_same : (c : Bool) → at_node (xs ++ ys) node ≡ choose (at_node xs node) (at_node ys node) Some → (if c then Some x.1 else at_node (xs ++ ys) node) ≡ choose (if c then Some x.1 else at_node xs node) (at_node ys node) Some
    by_same true e = refl
    by_same false e = e

-- nothing more is read of a table with no entry behind
pub none_behind : {A : Type 0} (xs : List (Option A)) (n : ℕ) → get_or (xs ++ None ∷ []) n None ≡ get_or xs n None
none_behind {A} [] zero = refl
none_behind {A} [] (suc n) = refl
none_behind {A} (x ∷ xs) zero = refl
none_behind {A} (x ∷ xs) (suc n) = none_behind xs n

-- the first that is said at a number, and what is said later
pub first_put : {A : Type 0} (old now : List (Option A)) (number : ℕ) (value : A) → number < length now → ((n : ℕ) → get_or now n None ≡ get_or old n None) → get_or now number None ≡ None → IsPut old (set now number (Some value)) number value
first_put {A} old now number value lt same none n = by_place (nat_eq number n) refl
  where
    by_place : (c : Bool) → nat_eq number n ≡ c → get_or (set now number (Some value)) n None ≡ choose (get_or old n None) (if nat_eq number n then Some value else None) Some
    by_place true c =
        let e : number ≡ n = eqb-true number n c in
        ap (λ k. get_or (set now number (Some value)) k None) (sym e) ∙ get_or-set_same now number (Some value) None lt
        ∙ sym (ap (λ b. choose (get_or old n None) (if b then Some value else None) Some) c ∙ ap (λ o. choose o (Some value) Some) (ap (λ k. get_or old k None) (sym e) ∙ sym (same number) ∙ none))
    by_place false c =
        get_or-set_other now number n (Some value) None (grind (arith, nat_tests, c)) ∙ same n ∙ or_none (get_or old n None)
        ∙ sym (ap (λ b. choose (get_or old n None) (if b then Some value else None) Some) c)

pub later_put : {A : Type 0} (old now : List (Option A)) (number : ℕ) (value first : A) → ((n : ℕ) → get_or now n None ≡ get_or old n None) → get_or now number None ≡ Some first → IsPut old now number value
later_put {A} old now number value first same there n = same n ∙ by_place (nat_eq number n) refl
  where
    by_place : (c : Bool) → nat_eq number n ≡ c → get_or old n None ≡ choose (get_or old n None) (if nat_eq number n then Some value else None) Some
    by_place true c =
        let here : get_or old n None ≡ Some first = ap (λ k. get_or old k None) (sym (eqb-true number n c)) ∙ sym (same number) ∙ there in
        here ∙ sym (ap (λ o. choose o (if nat_eq number n then Some value else None) Some) here)
    by_place false c = or_none (get_or old n None) ∙ sym (ap (λ b. choose (get_or old n None) (if b then Some value else None) Some) c)

pub put_said : {A : Type 0} (old new : List (Option A)) (number : ℕ) (value : A) → IsPut old new number value → SaysMore old new ((number, value) ∷ [])
put_said {A} old new number value is said says n =
    is n ∙ ap (λ o. choose o (if nat_eq number n then Some value else None) Some) (says n) ∙ sym (said_append said ((number, value) ∷ []) n)

-- ---- the nodes of a table

pub nodes_join : (ps qs : Plans) → nodes (join ps qs) ≡ nodes ps + nodes qs
nodes_join no_plans qs = omega arith
nodes_join (plan place p ps) qs = omega (arith, nodes_join ps qs)

-- what a table says of the nodes from one on
abbrev pairs : {A : Type 0} → ℕ → List (Option A) → List (ℕ × A)
pairs n [] = []
pairs n (None ∷ es) = pairs (suc n) es
pairs n (Some a ∷ es) = (n, a) ∷ pairs (suc n) es

pairs_append : {A : Type 0} (n : ℕ) (xs ys : List (Option A)) → pairs n (xs ++ ys) ≡ pairs n xs ++ pairs (n + length xs) ys
pairs_append {A} n [] ys = ap (λ m. pairs m ys) (let e : n ≡ n + 0 = omega arith in e)
pairs_append {A} n (None ∷ xs) ys =
    pairs_append (suc n) xs ys ∙ ap (λ m. pairs (suc n) xs ++ pairs m ys) (let e : suc n + length xs ≡ n + suc (length xs) = omega arith in e)
pairs_append {A} n (Some a ∷ xs) ys =
    ap (λ ps. (n, a) ∷ ps) (pairs_append (suc n) xs ys ∙ ap (λ m. pairs (suc n) xs ++ pairs m ys) (let e : suc n + length xs ≡ n + suc (length xs) = omega arith in e))

none_before : {A : Type 0} (n k : ℕ) (es : List (Option A)) → k < n → at_node (pairs n es) k ≡ None
none_before {A} n k [] lt = refl
none_before {A} n k (None ∷ es) lt = none_before (suc n) k es (omega (arith, lt))
none_before {A} n k (Some a ∷ es) lt =
    let other : nat_eq n k ≡ false = grind (arith, nat_tests, lt) in
    ap (λ c. if c then Some a else at_node (pairs (suc n) es) k) other ∙ none_before (suc n) k es (omega (arith, lt))

pairs_say : {A : Type 0} (n k : ℕ) (es : List (Option A)) → get_or es k None ≡ at_node (pairs n es) (n + k)
pairs_say {A} n zero [] = refl
pairs_say {A} n (suc k) [] = refl
pairs_say {A} n zero (None ∷ es) = sym (none_before (suc n) (n + 0) es (omega arith))
pairs_say {A} n zero (Some a ∷ es) =
    let same : nat_eq n (n + 0) ≡ true = grind (arith, nat_tests) in sym (ap (λ c. if c then Some a else at_node (pairs (suc n) es) (n + 0)) same)
pairs_say {A} n (suc k) (None ∷ es) = pairs_say (suc n) k es ∙ ap (at_node (pairs (suc n) es)) (let e : suc n + k ≡ n + suc k = omega arith in e)
pairs_say {A} n (suc k) (Some a ∷ es) =
    let other : nat_eq n (n + suc k) ≡ false = grind (arith, nat_tests) in
    pairs_say (suc n) k es ∙ ap (at_node (pairs (suc n) es)) (let e : suc n + k ≡ n + suc k = omega arith in e)
    ∙ sym (ap (λ c. if c then Some a else at_node (pairs (suc n) es) (n + suc k)) other)

mutual
  entries_in : (terms : Bool) (p : Plan) → length (entries_inside terms p) ≡ inside p
  entries_in terms (a_call name args) = all_entries false None args
  entries_in terms (a_form op args body) =
      let own = own_entry terms (a_form op args body) in
      let xs = all_entries false own args in
      let ys = all_entries (terms && has_terms op) None body in
      omega (arith, xs, ys, length-append (entries_among false own args) (entries_among (terms && has_terms op) None body))
  entries_in terms p = refl

  all_entries : (terms : Bool) (first : Option NamedDescriptor) (ps : Plans) → length (entries_among terms first ps) ≡ nodes ps
  all_entries terms first no_plans = refl
  all_entries terms first (plan place p ps) =
      let xs = entries_in terms p in
      let ys = all_entries terms None ps in
      omega (arith, xs, ys, length-append (entries_inside terms p) (entries_among terms None ps))

both_quiet : {A : Type 0} (n : ℕ) (xs ys : List (Option A)) → pairs n xs ≡ [] → ((m : ℕ) → pairs m ys ≡ []) → pairs n (xs ++ ys) ≡ []
both_quiet {A} n xs ys e f = pairs_append n xs ys ∙ ap (λ ps. ps ++ pairs (n + length xs) ys) e ∙ f (n + length xs)

-- what opens a list of terms declares no descriptor
no_name : (op : Op) → has_terms op ≡ true → is_naming op ≡ false
no_name (Op.Declaration Declaration.Name) h = absurd cc
no_name _ h = refl

-- what is no term declares nothing
mutual
  quiet_in : (n : ℕ) (p : Plan) → pairs n (entries_inside false p) ≡ []
  quiet_in n (a_call name args) = quiet n args
  quiet_in n (a_form op args body) = both_quiet n (entries_among false None args) (entries_among false None body) (quiet n args) (λ m. quiet m body)
  quiet_in n p = refl

  quiet : (n : ℕ) (ps : Plans) → pairs n (entries_among false None ps) ≡ []
  quiet n no_plans = refl
  quiet n (plan place p ps) = both_quiet (suc n) (entries_inside false p) (entries_among false None ps) (quiet_in (suc n) p) (λ m. quiet m ps)

module _ (n : ℕ) (op : Op) (args body : Plans) where
  abbrev names : List NamedDescriptor
  names = declared_by (a_form op args body)

  -- the first node inside a term that declares a descriptor is its name
  named_first_is : (ps : Plans) → ps ≡ args → pairs n (entries_among false (slice_get names 0) ps) ≡ named_first n names
  named_first_is no_plans e = sym (ap (λ ds. named_first n ds) (ap (λ ps. declared_by (a_form op ps body)) (sym e) ∙ none_without (is_naming op)))
    where
      none_without : (c : Bool) → (if c then named_of (plan_at no_plans 1) else []) ≡ []
      none_without true = refl
      none_without false = refl
  named_first_is (plan place p ps) e = by_names names
    where
      by_names : (ds : List NamedDescriptor) → pairs n (entries_among false (slice_get ds 0) (plan place p ps)) ≡ named_first n ds
      by_names [] = quiet n (plan place p ps)
      by_names (d ∷ ds) = ap (λ xs. (n, d) ∷ xs) (quiet n (plan place p ps))

  form_named : ((m : ℕ) → pairs m (entries_among true None body) ≡ named_from m body) → pairs n (entries_inside true (a_form op args body)) ≡ named_in n (a_form op args body)
  form_named inner =
      pairs_append n (entries_among false (slice_get names 0) args) (entries_among (has_terms op) None body)
      ∙ ap (λ m. pairs n (entries_among false (slice_get names 0) args) ++ pairs (n + m) (entries_among (has_terms op) None body)) (all_entries false (slice_get names 0) args)
      ∙ by_terms (has_terms op) refl
    where
      by_terms : (c : Bool) → has_terms op ≡ c → pairs n (entries_among false (slice_get names 0) args) ++ pairs (n + nodes args) (entries_among (has_terms op) None body) ≡ (if has_terms op then named_from (n + nodes args) body else named_first n names)
      by_terms true h =
          ap (λ ds. pairs n (entries_among false (slice_get ds 0) args) ++ pairs (n + nodes args) (entries_among (has_terms op) None body)) (ap (λ b. if b then named_of (plan_at args 1) else []) (no_name op h))
          ∙ ap (λ xs. xs ++ pairs (n + nodes args) (entries_among (has_terms op) None body)) (quiet n args)
          ∙ ap (λ b. pairs (n + nodes args) (entries_among b None body)) h ∙ inner (n + nodes args)
          ∙ sym (ap (λ b. if b then named_from (n + nodes args) body else named_first n names) h)
      by_terms false h =
          ap (λ xs. xs ++ pairs (n + nodes args) (entries_among (has_terms op) None body)) (named_first_is args refl)
          ∙ ap (λ b. named_first n names ++ pairs (n + nodes args) (entries_among b None body)) h
          ∙ ap (λ xs. named_first n names ++ xs) (quiet (n + nodes args) body) ∙ append-nil (named_first n names)
          ∙ sym (ap (λ b. if b then named_from (n + nodes args) body else named_first n names) h)

mutual
  named_inside : (n : ℕ) (p : Plan) → pairs n (entries_inside true p) ≡ named_in n p
  named_inside n (a_call name args) = quiet n args
  named_inside n (a_form op args body) = form_named n op args body (λ m. named_among m body)
  named_inside n p = refl

  named_among : (n : ℕ) (ps : Plans) → pairs n (entries_among true None ps) ≡ named_from n ps
  named_among n no_plans = refl
  named_among n (plan place p ps) =
      pairs_append (suc n) (entries_inside true p) (entries_among true None ps)
      ∙ ap (λ m. pairs (suc n) (entries_inside true p) ++ pairs m (entries_among true None ps)) (let size = entries_in true p in let e : suc n + length (entries_inside true p) ≡ suc (n + inside p) = omega (arith, size) in e)
      ∙ ap (λ xs. xs ++ pairs (suc (n + inside p)) (entries_among true None ps)) (named_inside (suc n) p)
      ∙ ap (λ xs. named_in (suc n) p ++ xs) (named_among (suc (n + inside p)) ps)

pub entries_say : (ps : Plans) → SaysAt (entries_among true None ps) (named_from 0 ps)
entries_say ps node =
    let es = entries_among true None ps in
    pairs_say 0 node es ∙ ap (at_node (pairs 0 es)) (let e : 0 + node ≡ node = omega arith in e) ∙ ap (λ s. at_node s node) (named_among 0 ps)
