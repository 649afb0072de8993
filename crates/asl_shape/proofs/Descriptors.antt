-- What the nodes of a descriptor give.
use Rattle.std.proofs.Common.{◌≡◌, ℕ, ◌+◌, ◌<◌, ◌≤◌, length, get_or, drop, List, [], ◌∷◌, ◌++◌, refl, ap, ◌∙◌, sym, append_assoc, append-nil, length-append, add-one, drop-cons, Option, Some, None}
use Rattle.std.specs.Prelude.{map, if◌then◌else◌}
use Rattle.std.proofs.lemmas.List.{drop_all}
use Rattle.acpi_values.specs.Paths.{NameSeg}
use Rattle.acpi_state.specs.Outcomes.{choose}
use Rattle.iasl_messages.specs.declared.place.Place.{Place}
use Rattle.asl_tree.specs.Names.{single_segment}
use Rattle.asl_tree.specs.declared.path.Path.{Path}
use Rattle.asl_tree.specs.declared.term.NamedDescriptor.{NamedDescriptor}
use Rattle.resource_layout.specs.declared.descriptor.Descriptor.{Descriptor}
use Rattle.asl_tree.specs.declared.term.Node.{Node}
use Rattle.resource_layout.specs.declared.descriptor.Field.{Field}
use Rattle.resource_macros.specs.declared.node.Node.{Node as Given}
use Rattle.resource_macros.specs.declared.node.Term as R
use Rattle.term_plans.specs.Plans.{Plan, a_name, plan_of, plans_of, number_of}
use Rattle.asl_shape.specs.Shapes.{named_unit}
use Rattle.asl_shape.specs.declared.fields.UnitName.{UnitName}
use Rattle.term_plans.specs.Plans.{fill_of, named_of}
use Rattle.asl_shape.specs.Descriptors.{node, argument_term, argument_nodes, member_nodes, fills_of, is_name, segment_of, named_as}
use Rattle.asl_shape.specs.Descriptors.{own_name, moved, names_from}

pub no_fields : (nodes : List Node) → argument_nodes [] (plans_of nodes) ≡ []
no_fields nodes = refl

pub no_arguments : (fields : List Field) → argument_nodes fields (plans_of []) ≡ []
unfolding plans_of
no_arguments [] = refl
no_arguments (field ∷ fields) = refl

pub more_arguments : (field : Field) (fields : List Field) (first : Node) (rest : List Node) → argument_nodes (field ∷ fields) (plans_of (first ∷ rest)) ≡ node first.place (argument_term field.giver (plan_of first.term)) ∷ argument_nodes fields (plans_of rest)
unfolding plans_of
more_arguments field fields first rest = refl

pub ruleset arguments_rules = (no_fields, no_arguments, more_arguments, append_assoc, append-nil)

-- the nodes from one on
from_node : (nodes : List Node) (i : ℕ) (d : Node) → i < length nodes → d ≡ get_or nodes i d → drop i nodes ≡ d ∷ drop (i + 1) nodes
from_node nodes i d lt is = rw add-one (drop-cons nodes i d lt) ∙ ap (λ n. n ∷ drop (i + 1) nodes) (sym is)

no_members : member_nodes (plans_of []) ≡ []
unfolding plans_of
no_members = refl

more_members : (first : Node) (rest : List Node) → member_nodes (plans_of (first ∷ rest)) ≡ node first.place (R.Integer (number_of (plan_of first.term))) ∷ member_nodes (plans_of rest)
unfolding plans_of
more_members first rest = refl

pub next_members : (old new all : List Given) (nodes : List Node) (i : ℕ) (d : Node) → i < length nodes → d ≡ get_or nodes i d → new ≡ old ++ node d.place (R.Integer (number_of (plan_of d.term))) ∷ [] → old ++ member_nodes (plans_of (drop i nodes)) ≡ all
    → new ++ member_nodes (plans_of (drop (i + 1) nodes)) ≡ all
next_members old new all nodes i d lt is e inv =
    let rest = member_nodes (plans_of (drop (i + 1) nodes)) in
    ap (λ ns. ns ++ rest) e ∙ append_assoc old (node d.place (R.Integer (number_of (plan_of d.term))) ∷ []) rest
    ∙ ap (λ ns. old ++ ns) (sym (ap (λ ns. member_nodes (plans_of ns)) (from_node nodes i d lt is) ∙ more_members d (drop (i + 1) nodes))) ∙ inv

pub last_member : (old all : List Given) (nodes : List Node) (i : ℕ) → length nodes ≤ i → old ++ member_nodes (plans_of (drop i nodes)) ≡ all → old ≡ all
last_member old all nodes i le inv = sym (ap (λ ns. old ++ member_nodes (plans_of ns)) (drop_all i nodes le) ∙ ap (λ ns. old ++ ns) no_members ∙ append-nil old) ∙ inv

pub ruleset fill_rules = (append-nil)

no_fills : fills_of (plans_of []) ≡ []
unfolding plans_of
no_fills = refl

more_fills : (first : Node) (rest : List Node) → fills_of (plans_of (first ∷ rest)) ≡ fill_of (plan_of first.term) ++ fills_of (plans_of rest)
unfolding plans_of
more_fills first rest = refl

pub next_fills : (old new all : List ℕ) (nodes : List Node) (i : ℕ) (d : Node) → i < length nodes → d ≡ get_or nodes i d → new ≡ old ++ fill_of (plan_of d.term) → old ++ fills_of (plans_of (drop i nodes)) ≡ all → new ++ fills_of (plans_of (drop (i + 1) nodes)) ≡ all
next_fills old new all nodes i d lt is e inv =
    let rest = fills_of (plans_of (drop (i + 1) nodes)) in
    ap (λ bs. bs ++ rest) e ∙ append_assoc old (fill_of (plan_of d.term)) rest
    ∙ ap (λ bs. old ++ bs) (sym (ap (λ ns. fills_of (plans_of ns)) (from_node nodes i d lt is) ∙ more_fills d (drop (i + 1) nodes))) ∙ inv

no_names : (n : ℕ) → names_from n (plans_of []) ≡ []
unfolding plans_of
no_names n = refl

more_names : (n : ℕ) (first : Node) (rest : List Node) → names_from n (plans_of (first ∷ rest)) ≡ map (moved n) (named_of (plan_of first.term)) ++ names_from (n + length (fill_of (plan_of first.term))) (plans_of rest)
unfolding plans_of
more_names n first rest = refl

pub next_names : (old new all : List NamedDescriptor) (bytes more : List ℕ) (nodes : List Node) (i : ℕ) (d : Node) → i < length nodes → d ≡ get_or nodes i d → more ≡ bytes ++ fill_of (plan_of d.term) → new ≡ old ++ map (moved (length bytes)) (named_of (plan_of d.term)) → old ++ names_from (length bytes) (plans_of (drop i nodes)) ≡ all
    → new ++ names_from (length more) (plans_of (drop (i + 1) nodes)) ≡ all
next_names old new all bytes more nodes i d lt is e f inv =
    let here = map (moved (length bytes)) (named_of (plan_of d.term)) in
    let rest = plans_of (drop (i + 1) nodes) in
    let further = ap length e ∙ length-append bytes (fill_of (plan_of d.term)) in
    ap (λ n. new ++ names_from n rest) further
    ∙ ap (λ ns. ns ++ names_from (length bytes + length (fill_of (plan_of d.term))) rest) f
    ∙ append_assoc old here (names_from (length bytes + length (fill_of (plan_of d.term))) rest)
    ∙ ap (λ ns. old ++ ns) (sym (ap (λ ns. names_from (length bytes) (plans_of ns)) (from_node nodes i d lt is) ∙ more_names (length bytes) d (drop (i + 1) nodes))) ∙ inv

pub last_name : (old all : List NamedDescriptor) (n : ℕ) (nodes : List Node) (i : ℕ) → length nodes ≤ i → old ++ names_from n (plans_of (drop i nodes)) ≡ all → old ≡ all
last_name old all n nodes i le inv = sym (ap (λ ns. old ++ names_from n (plans_of ns)) (drop_all i nodes le) ∙ ap (λ ns. old ++ ns) (no_names n) ∙ append-nil old) ∙ inv

-- ---- the name that arguments give

by_segment : (place : Place) (path : Path) (o : Option NameSeg) → single_segment path ≡ o → (r : Option UnitName) → r ≡ named_unit place (a_name path) → segment_of (a_name path) ≡ choose r None (λ unit. Some unit.segment)
by_segment place path None e r same = e ∙ sym (ap (λ r. choose r None (λ (unit : UnitName). Some unit.segment)) (same ∙ ap (λ o. choose o None (λ segment. Some (record { place = place; segment = segment }))) e))
by_segment place path (Some segment) e r same = e ∙ sym (ap (λ r. choose r None (λ (unit : UnitName). Some unit.segment)) (same ∙ ap (λ o. choose o None (λ segment. Some (record { place = place; segment = segment }))) e))

segment_by : (place : Place) (p : Plan) (r : Option UnitName) → r ≡ named_unit place p → segment_of p ≡ choose r None (λ unit. Some unit.segment)
segment_by place (a_name path) r same = by_segment place path (single_segment path) refl r same
segment_by place p r same = sym (ap (λ r. choose r None (λ (unit : UnitName). Some unit.segment)) same)

pub segment_some : (place : Place) (p : Plan) (unit : UnitName) → Some unit ≡ named_unit place p → Some unit.segment ≡ segment_of p
segment_some place p unit same = sym (segment_by place p (Some unit) same)

pub segment_none : (place : Place) (p : Plan) → None ≡ named_unit place p → None ≡ segment_of p
segment_none place p same = sym (segment_by place p None same)

pub ruleset segment_rules = (segment_some, segment_none)

pub no_more : (d : Descriptor) (nodes : List Node) → own_name d [] (plans_of nodes) ≡ []
no_more d nodes = refl

pub no_argument : (d : Descriptor) (fields : List Field) → own_name d fields (plans_of []) ≡ []
unfolding plans_of
no_argument d [] = refl
no_argument d (field ∷ fields) = refl

pub next_argument : (d : Descriptor) (field : Field) (fields : List Field) (first : Node) (rest : List Node) → own_name d (field ∷ fields) (plans_of (first ∷ rest)) ≡ if is_name field.giver then named_as d first.place (segment_of (plan_of first.term)) else own_name d fields (plans_of rest)
unfolding plans_of
next_argument d field fields first rest = refl

pub ruleset own_name_rules = (no_more, no_argument, next_argument, append-nil)

pub last_fill : (old all : List ℕ) (nodes : List Node) (i : ℕ) → length nodes ≤ i → old ++ fills_of (plans_of (drop i nodes)) ≡ all → old ≡ all
last_fill old all nodes i le inv = sym (ap (λ ns. old ++ fills_of (plans_of ns)) (drop_all i nodes le) ∙ ap (λ bs. old ++ bs) no_fills ∙ append-nil old) ∙ inv
