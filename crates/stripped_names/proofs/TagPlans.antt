-- The descriptors of plans by the nodes of their names, and those of their trees.
use Rattle.std.proofs.Common.{◌≡◌, ℕ, suc, ◌+◌, ◌≤◌, ◌<◌, Bool, true, false, List, [], ◌∷◌, ◌++◌, Option, Some, None, refl, sym, ap, ◌∙◌, arith}
use Rattle.std.specs.Prelude.{is_some, nat_eq, if◌then◌else◌}
use Rattle.std.proofs.lemmas.Bool.Decides.{nat_tests}
use Rattle.acpi_values.specs.Paths.{AbsolutePath}
use Rattle.acpi_state.specs.Outcomes.{choose}
use Rattle.asl_tree.specs.declared.term.Op.{Op}
use Rattle.asl_tree.specs.declared.term.Declaration.TheVariants as Declaration
use Rattle.asl_tree.specs.declared.term.NamedDescriptor.{NamedDescriptor}
use Rattle.asl_tree.specs.Tree.{At}
use Rattle.asl_tree.specs.View.{form}
use Rattle.asl_meaning.specs.Declarations.{nothing_declared}
use Rattle.acpi_names.proofs.Plain.{plain_form}
use Rattle.term_plans.specs.Plans.{Plan, a_name, a_unit, a_form, Plans, no_plans, plan, plan_at}
use Rattle.term_plans.specs.Plans.{named_of}
use Rattle.asl_numbers.specs.Numbers.{inside, nodes, numbered, numbered_all}
use Rattle.descriptor_fields.specs.Declaring.{has_terms, is_naming, declared_by}
use Rattle.descriptor_fields.specs.Nodes.{at_node, named_first, named_in, named_from}
use Rattle.descriptor_checks.specs.Resolved.{described, mentions_of, table_of}
use Rattle.unused_names.specs.Left.{is_fill, is_one_of, is_descriptor}
use Rattle.stripped_names.specs.Whole.{Where, IsWhole, AreWhole}
use Rattle.stripped_names.proofs.LeftForms.{second}
use Rattle.stripped_names.proofs.Stripped.{has_some, second_fill}
use Rattle.stripped_names.proofs.Tagged.{found_in, IsFree, Tagged, AllTagged, block}
use Rattle.stripped_names.proofs.TagForms.{Head, AllHeads, plain_head, body_tagged, other_tagged, FirstTag, plain_first, name_tagged}

-- ---- what lists say of nodes

node_append : (a b : List (ℕ × NamedDescriptor)) (id : ℕ) → at_node (a ++ b) id ≡ choose (at_node a id) (at_node b id) Some
node_append [] b id = refl
node_append (said ∷ a) b id = by_same (nat_eq said.0 id) (node_append a b id)
  where
    by_same : (c : Bool) → at_node (a ++ b) id ≡ choose (at_node a id) (at_node b id) Some → (if c then Some said.1 else at_node (a ++ b) id) ≡ choose (if c then Some said.1 else at_node a id) (at_node b id) Some
    by_same true h = refl
    by_same false h = h

abbrev none_named : Option NamedDescriptor
none_named = None

none_both : (a b : List (ℕ × NamedDescriptor)) (id : ℕ) → at_node a id ≡ none_named → at_node b id ≡ none_named → at_node (a ++ b) id ≡ none_named
none_both a b id h k = node_append a b id ∙ ap (λ o. choose o (at_node b id) Some) h ∙ k

none_first : (a b : List (ℕ × NamedDescriptor)) (id : ℕ) → at_node a id ≡ none_named → at_node (a ++ b) id ≡ at_node b id
none_first a b id h = node_append a b id ∙ ap (λ o. choose o (at_node b id) Some) h

none_last : (a b : List (ℕ × NamedDescriptor)) (id : ℕ) → at_node b id ≡ none_named → at_node (a ++ b) id ≡ at_node a id
none_last a b id h = node_append a b id ∙ ap (λ o. choose (at_node a id) o Some) h ∙ by_some (at_node a id)
  where
    by_some : (o : Option NamedDescriptor) → choose o None Some ≡ o
    by_some None = refl
    by_some (Some x) = refl

not_same : (a b : ℕ) → nat_eq a b ≡ false → (x : NamedDescriptor) → at_node ((a, x) ∷ []) b ≡ none_named
not_same a b e x = ap (λ c. if c then Some x else none_named) e

-- ---- terms declare descriptors at nodes inside them

before_first : (next : ℕ) (names : List NamedDescriptor) (id : ℕ) → id < next → at_node (named_first next names) id ≡ none_named
before_first next [] id h = refl
before_first next (named ∷ others) id h = not_same next id (grind (arith, nat_tests, h)) named

behind_first : (next : ℕ) (names : List NamedDescriptor) (id : ℕ) → next < id → at_node (named_first next names) id ≡ none_named
behind_first next [] id h = refl
behind_first next (named ∷ others) id h = not_same next id (grind (arith, nat_tests, h)) named

mutual
  before_in : (p : Plan) (next id : ℕ) → id < next → at_node (named_in next p) id ≡ none_named
  before_in (a_form op args body) next id h = by_terms (has_terms op) (before_from body (next + nodes args) id (omega (arith, h)))
    where
      by_terms : (b : Bool) → at_node (named_from (next + nodes args) body) id ≡ none_named → at_node (if b then named_from (next + nodes args) body else named_first next (declared_by (a_form op args body))) id ≡ none_named
      by_terms true k = k
      by_terms false k = before_first next (declared_by (a_form op args body)) id h
  before_in _ next id h = refl

  before_from : (ps : Plans) (next id : ℕ) → id < next → at_node (named_from next ps) id ≡ none_named
  before_from no_plans next id h = refl
  before_from (plan place p ps) next id h =
      none_both (named_in (suc next) p) (named_from (suc (next + inside p)) ps) id (before_in p (suc next) id (omega (arith, h))) (before_from ps (suc (next + inside p)) id (omega (arith, h)))

no_value : (op : Op) (body : Plans) → declared_by (a_form op no_plans body) ≡ []
no_value op body = by_naming (is_naming op)
  where
    none : List NamedDescriptor
    none = []

    by_naming : (b : Bool) → (if b then none else []) ≡ []
    by_naming true = refl
    by_naming false = refl

behind_args : (op : Op) (args body : Plans) (next id : ℕ) → next + (nodes args + nodes body) ≤ id → at_node (named_first next (declared_by (a_form op args body))) id ≡ none_named
behind_args op no_plans body next id h = ap (λ names. at_node (named_first next names) id) (no_value op body)
behind_args op (plan place p ps) body next id h = behind_first next (declared_by (a_form op (plan place p ps) body)) id (omega (arith, h))

mutual
  behind_in : (p : Plan) (next id : ℕ) → next + inside p ≤ id → at_node (named_in next p) id ≡ none_named
  behind_in (a_form op args body) next id h = by_terms (has_terms op) (behind_from body (next + nodes args) id (omega (arith, h)))
    where
      by_terms : (b : Bool) → at_node (named_from (next + nodes args) body) id ≡ none_named → at_node (if b then named_from (next + nodes args) body else named_first next (declared_by (a_form op args body))) id ≡ none_named
      by_terms true k = k
      by_terms false k = behind_args op args body next id h
  behind_in _ next id h = refl

  behind_from : (ps : Plans) (next id : ℕ) → next + nodes ps ≤ id → at_node (named_from next ps) id ≡ none_named
  behind_from no_plans next id h = refl
  behind_from (plan place p ps) next id h =
      none_both (named_in (suc next) p) (named_from (suc (next + inside p)) ps) id (behind_in p (suc next) id (omega (arith, h))) (behind_from ps (suc (next + inside p)) id (omega (arith, h)))

-- ---- trees

module _ (named : List (ℕ × NamedDescriptor)) where
  -- the list says the same as another one of the nodes from one on before another
  abbrev Same : List (ℕ × NamedDescriptor) → ℕ → ℕ → Type 0
  Same others low high = (id : ℕ) → low ≤ id → id < high → at_node named id ≡ at_node others id

  free : (at : At) → at_node named at.id ≡ none_named → IsFree named at
  free at h = ap is_some h

  head : (p : Plan) (at : At) (next : ℕ) → at_node named at.id ≡ none_named → Head named (numbered at next p)
  unfolding numbered
  head (a_name name) at next h = free at h
  head (a_unit segment bits) at next h = free at h
  head (a_form op args body) at next h = plain_head named (form at op (numbered_all next args) (numbered_all (next + nodes args) body)) (plain_form at op (numbered_all next args) (numbered_all (next + nodes args) body))
  head _ at next h = tt

  heads : (ps : Plans) (next : ℕ) → ((id : ℕ) → next ≤ id → id < next + nodes ps → at_node named id ≡ none_named) → AllHeads named (numbered_all next ps)
  unfolding numbered_all
  heads no_plans next h = tt
  heads (plan place p ps) next h =
      (head p (record { id = next; place = place }) (suc next) (h next (omega arith) (omega arith)), heads ps (suc (next + inside p)) (λ id a b. h id (omega (arith, a)) (omega (arith, b))))

  first_tag : (args : Plans) (next : ℕ) (b : Bool) → (1 ≤ nodes args → is_some (at_node named next) ≡ b) → FirstTag named (numbered_all next args) b
  unfolding numbered numbered_all
  first_tag no_plans next b h = tt
  first_tag (plan place (a_name name) ps) next b h = h (omega arith)
  first_tag (plan place (a_form op args body) ps) next b h =
      plain_first named (form (record { id = next; place = place }) op (numbered_all (suc next) args) (numbered_all (suc next + nodes args) body)) _ b
      (plain_form (record { id = next; place = place }) op (numbered_all (suc next) args) (numbered_all (suc next + nodes args) body))
  first_tag (plan place _ ps) next b h = tt

  first_named : (next : ℕ) (names : List NamedDescriptor) → is_some (at_node (named_first next names) next) ≡ has_some names
  first_named next [] = refl
  first_named next (x ∷ others) = let e : nat_eq next next ≡ true = grind (arith, nat_tests) in ap (λ c. is_some (if c then Some x else none_named)) e

  other_form : (op : Op) (args body : Plans) (at : At) (next : ℕ) (b c : Bool) → has_terms op ≡ b → is_naming op ≡ c → c ≡ false → IsWhole (a_form op args body)
      → Same (named_in next (a_form op args body)) next (next + (nodes args + nodes body))
      → (b ≡ true → Same (named_from (next + nodes args) body) (next + nodes args) (next + nodes args + nodes body) → AllTagged named (numbered_all (next + nodes args) body))
      → Tagged named (numbered at next (a_form op args body))
  unfolding numbered
  other_form op args body at next b true e n c h same go = absurd cc
  other_form op args body at next true false e n c h same go =
      let inner : (id : ℕ) → next ≤ id → id < next + (nodes args + nodes body) → at_node named id ≡ at_node (named_from (next + nodes args) body) id =
      λ id x y. same id x y ∙ ap (λ b. at_node (if b then named_from (next + nodes args) body else named_first next (declared_by (a_form op args body))) id) e in
      body_tagged named at op (numbered_all next args) (numbered_all (next + nodes args) body) e
      (heads args next (λ id x y. inner id x (omega (arith, y)) ∙ before_from body (next + nodes args) id y))
      (go refl (λ id x y. inner id (omega (arith, x)) (omega (arith, y))))
  other_form op args body at next false false e n c h same go =
      let inner : (id : ℕ) → next ≤ id → id < next + (nodes args + nodes body) → at_node named id ≡ none_named =
      λ id x y. same id x y ∙ ap (λ b. at_node (if b then named_from (next + nodes args) body else named_first next (declared_by (a_form op args body))) id) e ∙ ap (λ b. at_node (named_first next (if b then named_of (plan_at args 1) else [])) id) n in
      other_tagged named at op (numbered_all next args) (numbered_all (next + nodes args) body) e n
      (heads args next (λ id x y. inner id x (omega (arith, y)))) (heads body (next + nodes args) (λ id x y. inner id (omega (arith, x)) (omega (arith, y))))

  mutual
    unfolding numbered numbered_all

    tagged : (p : Plan) (at : At) (next : ℕ) → IsWhole p → Same (named_in next p) next (next + inside p) → Tagged named (numbered at next p)
    tagged (a_form (Op.Declaration Declaration.Name) args body) at next h same =
        name_tagged named at (numbered_all next args) (numbered_all (next + nodes args) body)
        (first_tag args next (is_fill (second (numbered_all next args)))
        (λ some. ap is_some (same next (omega arith) (omega (arith, some))) ∙ first_named next (declared_by (a_form (Op.Declaration Declaration.Name) args body)) ∙ sym (second_fill args next h.1.0)))
    tagged (a_form op args body) at next h same =
        other_form op args body at next (has_terms op) (is_naming op) refl refl refl h same (λ e inner. all_tagged body (next + nodes args) (terms e) inner)
      where
        terms : has_terms op ≡ true → AreWhole body
        terms e = by_terms (has_terms op) e h.1.1
          where
            by_terms : (b : Bool) → b ≡ true → Where b (AreWhole body) → AreWhole body
            by_terms true e h = h
            by_terms false e h = absurd cc
    tagged _ at next h same = tt

    pub all_tagged : (ps : Plans) (next : ℕ) → AreWhole ps → Same (named_from next ps) next (next + nodes ps) → AllTagged named (numbered_all next ps)
    all_tagged no_plans next h same = tt
    all_tagged (plan place p ps) next h same = (
      tagged p (record { id = next; place = place }) (suc next) h.0
          (λ id x y. same id (omega (arith, x)) (omega (arith, y)) ∙ none_last (named_in (suc next) p) (named_from (suc (next + inside p)) ps) id (before_from ps (suc (next + inside p)) id (omega (arith, y)))),
      all_tagged ps (suc (next + inside p)) h.1
          (λ id x y. same id (omega (arith, x)) (omega (arith, y)) ∙ none_first (named_in (suc next) p) (named_from (suc (next + inside p)) ps) id (behind_in p (suc next) id (omega (arith, x)))),
    )

-- ---- the descriptors of a block

pub table_descriptor : (ps : Plans) (path : AbsolutePath) → AreWhole ps → is_some (table_of ps path) ≡ is_descriptor (numbered_all 0 ps) path
table_descriptor ps path h =
    found_in (described (named_from 0 ps) (mentions_of ps)) path
    ∙ ap (λ paths. is_one_of paths path) (block (named_from 0 ps) (numbered_all 0 ps) [] nothing_declared (all_tagged (named_from 0 ps) ps 0 h (λ id x y. refl)))
