-- Lists that are walked through.
use Rattle.std.proofs.Common.{◌≡◌, ℕ, suc, ◌+◌, ◌<◌, ◌≤◌, List, [], ◌∷◌, ◌++◌, Bool, true, false, length, get_or, drop, append-nil, append_assoc, add-one, drop-cons, refl, sym, ap, ◌∙◌, arith}
use Rattle.std.specs.Prelude.{◌||◌, reverse}
use Rattle.std.proofs.lemmas.List.{drop_all, reverse-append, reverse-reverse}
use Rattle.iasl_messages.specs.declared.place.Place.{Place}
use Rattle.asl_tree.specs.declared.term.NamedDescriptor.{NamedDescriptor}
use Rattle.asl_tree.specs.declared.term.Node.{Node}
use Rattle.term_plans.specs.Plans.{Plan, Plans, no_plans, plan, plan_of, plans_of, join}
use Rattle.term_plans.proofs.Plans.{no_plans_are, more_plans_are}
use Rattle.term_plans.proofs.Lists.{join_assoc}
use Rattle.term_plans.proofs.Lists.{join_nothing, join_first, push_is}
use Rattle.asl_numbers.specs.Numbers.{inside, nodes}
use Rattle.descriptor_fields.specs.Declaring.{names_descriptor, names_descriptors, declarations, declaration, alone}
use Rattle.descriptor_fields.proofs.Said.{nodes_join}

-- the nodes from one on
pub from_node : (ns : List Node) (i : ℕ) (d : Node) → i < length ns → d ≡ get_or ns i d → drop i ns ≡ d ∷ drop (i + 1) ns
from_node ns i d lt is = rw add-one (drop-cons ns i d lt) ∙ ap (λ n. n ∷ drop (i + 1) ns) (sym is)

-- ---- what nodes come to in a list, one after another

module _ {A : Type 0} (whole rest : Plans → List A) (each : Plan → List A) (more : (place : Place) (p : Plan) (ps : Plans) → whole (plan place p ps) ≡ each p ++ rest ps) where
  pub next_in : (old new all : List A) (ns : List Node) (i : ℕ) (d : Node) → i < length ns → d ≡ get_or ns i d → new ≡ old ++ each (plan_of d.term) → old ++ whole (plans_of (drop i ns)) ≡ all → new ++ rest (plans_of (drop (i + 1) ns)) ≡ all
  next_in old new all ns i d lt is e inv =
      let behind = plans_of (drop (i + 1) ns) in
      ap (λ xs. xs ++ rest behind) e ∙ append_assoc old (each (plan_of d.term)) (rest behind)
      ∙ ap (λ xs. old ++ xs) (sym (ap (λ ns. whole (plans_of ns)) (from_node ns i d lt is) ∙ ap whole (more_plans_are d (drop (i + 1) ns)) ∙ more d.place (plan_of d.term) behind)) ∙ inv

pub last_in : {A : Type 0} (whole : Plans → List A) (old all : List A) (ns : List Node) (i : ℕ) → whole no_plans ≡ [] → length ns ≤ i → old ++ whole (plans_of (drop i ns)) ≡ all → old ≡ all
last_in {A} whole old all ns i none le inv =
    sym (ap (λ ns. old ++ whole (plans_of ns)) (drop_all i ns le) ∙ ap (λ xs. old ++ xs) (ap whole no_plans_are ∙ none) ∙ append-nil old) ∙ inv

-- ---- whether there are any

named_from : (ns : List Node) (i : ℕ) (d : Node) (b : Bool) → i < length ns → d ≡ get_or ns i d → b ≡ names_descriptor (plan_of d.term) → names_descriptors (plans_of (drop i ns)) ≡ (b || names_descriptors (plans_of (drop (i + 1) ns)))
named_from ns i d b lt is e =
    ap (λ ns. names_descriptors (plans_of ns)) (from_node ns i d lt is) ∙ ap names_descriptors (more_plans_are d (drop (i + 1) ns)) ∙ ap (λ c. c || names_descriptors (plans_of (drop (i + 1) ns))) (sym e)

pub none_named : (ns : List Node) → length ns ≡ 0 → names_descriptors (plans_of ns) ≡ false
none_named [] e = ap names_descriptors no_plans_are
none_named (n ∷ ns) e = absurd (omega (arith, e))

pub next_unnamed : (ns : List Node) (i : ℕ) (d : Node) (b all : Bool) → i < length ns → d ≡ get_or ns i d → b ≡ names_descriptor (plan_of d.term) → b ≡ false → names_descriptors (plans_of (drop i ns)) ≡ all → names_descriptors (plans_of (drop (i + 1) ns)) ≡ all
next_unnamed ns i d b all lt is e none inv = sym (named_from ns i d b lt is e ∙ ap (λ c. c || names_descriptors (plans_of (drop (i + 1) ns))) none) ∙ inv

pub named_here : (ns : List Node) (i : ℕ) (d : Node) (b all : Bool) → i < length ns → d ≡ get_or ns i d → b ≡ names_descriptor (plan_of d.term) → b ≡ true → names_descriptors (plans_of (drop i ns)) ≡ all → true ≡ all
named_here ns i d b all lt is e some inv = sym (named_from ns i d b lt is e ∙ ap (λ c. c || names_descriptors (plans_of (drop (i + 1) ns))) some) ∙ inv

pub last_unnamed : (all : Bool) (ns : List Node) (i : ℕ) → length ns ≤ i → names_descriptors (plans_of (drop i ns)) ≡ all → false ≡ all
last_unnamed all ns i le inv = sym (ap (λ ns. names_descriptors (plans_of ns)) (drop_all i ns le) ∙ ap names_descriptors no_plans_are) ∙ inv

-- ---- terms that declare names

pub begin_declared : (old : Plans) (names left : List NamedDescriptor) → left ≡ reverse names → join old (declarations (reverse left)) ≡ join old (declarations names)
begin_declared old names left e = ap (λ ns. join old (declarations (reverse ns))) e ∙ ap (λ ns. join old (declarations ns)) (reverse-reverse names)

pub next_declared : (old new all : Plans) (left rest : List NamedDescriptor) (d : NamedDescriptor) → left ≡ rest ++ d ∷ [] → new ≡ join old (alone d.place (declaration d)) → join old (declarations (reverse left)) ≡ all → join new (declarations (reverse rest)) ≡ all
next_declared old new all left rest d e f inv =
    ap (λ ps. join ps (declarations (reverse rest))) f ∙ join_assoc old (alone d.place (declaration d)) (declarations (reverse rest))
    ∙ ap (λ ns. join old (declarations ns)) (sym (ap reverse e ∙ reverse-append rest (d ∷ []))) ∙ inv

none_left : {A : Type 0} (left : List A) → length left ≡ 0 → reverse left ≡ []
none_left {A} [] e = refl
none_left {A} (x ∷ xs) e = absurd (omega (arith, e))

pub last_declared : (old all : Plans) (left : List NamedDescriptor) → length left ≡ 0 → join old (declarations (reverse left)) ≡ all → old ≡ all
last_declared old all left e inv = sym (ap (λ ns. join old (declarations ns)) (none_left left e) ∙ join_nothing old) ∙ inv

-- ---- nodes that are taken from a list one after another, from the first on

last_count : (ns : List Node) (node : Node) → nodes (plans_of (ns ++ node ∷ [])) ≡ nodes (plans_of ns) + suc (inside (plan_of node.term))
last_count ns node = let more = ap nodes (push_is ns node) in omega (arith, more, nodes_join (plans_of ns) (alone node.place (plan_of node.term)))

pub popped_count : (left more : List Node) (node : Node) → left ≡ more ++ node ∷ [] → nodes (plans_of left) ≡ nodes (plans_of more) + suc (inside (plan_of node.term))
popped_count left more node e = ap (λ ns. nodes (plans_of ns)) e ∙ last_count more node

pub first_count : (node : Node) (ns : List Node) → nodes (plans_of (node ∷ ns)) ≡ suc (inside (plan_of node.term) + nodes (plans_of ns))
first_count node ns = ap nodes (more_plans_are node ns)

-- what is left, from the first on
popped : (left more : List Node) (node : Node) → left ≡ more ++ node ∷ [] → reverse left ≡ node ∷ reverse more
popped left more node e = ap reverse e ∙ reverse-append more (node ∷ [])

turned_count : (ns : List Node) → nodes (plans_of (reverse ns)) ≡ nodes (plans_of ns)
turned_count [] = refl
turned_count (n ∷ ns) =
    ap (λ xs. nodes (plans_of xs)) (reverse-append (n ∷ []) ns) ∙ last_count (reverse ns) n ∙ (let h = turned_count ns in let k = first_count n ns in omega (arith, h, k))

pub reversed_count : (ns left : List Node) → left ≡ reverse ns → nodes (plans_of left) ≡ nodes (plans_of ns)
reversed_count ns left e = ap (λ xs. nodes (plans_of xs)) e ∙ turned_count ns

-- where each term comes to some terms, one after another
module _ (whole : Plans → Plans) (each : Place → Plan → Plans) (none : whole no_plans ≡ no_plans) (more : (place : Place) (p : Plan) (ps : Plans) → whole (plan place p ps) ≡ join (each place p) (whole ps)) where
  pub begin_each : (ns left out : List Node) → left ≡ reverse ns → out ≡ [] → join (plans_of out) (whole (plans_of (reverse left))) ≡ whole (plans_of ns)
  begin_each ns left out e f =
      ap (λ ns. join (plans_of ns) (whole (plans_of (reverse left)))) f ∙ join_first (whole (plans_of (reverse left))) ∙ ap (λ ns. whole (plans_of (reverse ns))) e ∙ ap (λ ns. whole (plans_of ns)) (reverse-reverse ns)

  pub next_each : (left rest out added : List Node) (node : Node) (all : Plans) → left ≡ rest ++ node ∷ [] → plans_of added ≡ join (plans_of out) (each node.place (plan_of node.term)) → join (plans_of out) (whole (plans_of (reverse left))) ≡ all → join (plans_of added) (whole (plans_of (reverse rest))) ≡ all
  next_each left rest out added node all e f inv =
      ap (λ ps. join ps (whole (plans_of (reverse rest)))) f ∙ join_assoc (plans_of out) (each node.place (plan_of node.term)) (whole (plans_of (reverse rest)))
      ∙ ap (join (plans_of out)) (sym (ap (λ ns. whole (plans_of ns)) (popped left rest node e) ∙ ap whole (more_plans_are node (reverse rest)) ∙ more node.place (plan_of node.term) (plans_of (reverse rest)))) ∙ inv

  pub end_each : (left out : List Node) (all : Plans) → length left ≡ 0 → join (plans_of out) (whole (plans_of (reverse left))) ≡ all → plans_of out ≡ all
  end_each left out all e inv = sym (ap (λ ns. join (plans_of out) (whole (plans_of ns))) (none_left left e) ∙ ap (join (plans_of out)) (ap whole no_plans_are ∙ none) ∙ join_nothing (plans_of out)) ∙ inv
