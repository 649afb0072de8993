-- Plans without the terms that declare descriptors, and their trees.
use Rattle.std.proofs.Common.{◌≡◌, ℕ, suc, ◌+◌, Bool, true, false, List, [], ◌∷◌, refl, sym, ap, ◌∙◌}
use Rattle.std.specs.Prelude.{if◌then◌else◌}
use Rattle.asl_tree.specs.declared.term.Op.{Op}
use Rattle.asl_tree.specs.declared.term.Declaration.TheVariants as Declaration
use Rattle.asl_tree.specs.declared.term.NamedDescriptor.{NamedDescriptor}
use Rattle.asl_tree.specs.Tree.{At, Tree, Fill, Trees, tree}
use Rattle.asl_tree.specs.View.{form}
use Rattle.acpi_names.proofs.Plain.{is_plain, plain_form}
use Rattle.term_plans.specs.Plans.{Plan, a_fill, a_form, Plans, no_plans, plan, plan_at, join}
use Rattle.term_plans.specs.Plans.{named_of}
use Rattle.asl_numbers.specs.Numbers.{inside, nodes, numbered, numbered_all}
use Rattle.descriptor_fields.specs.Declaring.{has_terms, alone, is_naming, declared_by, unless_declared, closed, stripped}
use Rattle.unused_names.specs.Bare.{nowhere, bare, bare_all}
use Rattle.unused_names.specs.Left.{is_fill, declares_descriptor, left_term, left_terms}
use Rattle.unused_names.proofs.BareForms.{bare_form}
use Rattle.stripped_names.specs.Whole.{IsShaped, Describes, Where, IsWhole, AreWhole}
use Rattle.stripped_names.proofs.Numbered.{renumbered, all_renumbered, shaped_at}
use Rattle.stripped_names.proofs.LeftForms.{with_terms, other_form, second, name_form}

-- ---- the terms that declare descriptors

abbrev pub has_some : List NamedDescriptor → Bool
has_some [] = false
has_some (named ∷ others) = true

no_fill : (t : Tree) → is_plain t ≡ true → is_fill t ≡ false
no_fill (Fill bytes) h = absurd cc
no_fill _ h = refl

value_fill : (p : Plan) (here : At) (next : ℕ) → Describes p → is_fill (numbered here next p) ≡ has_some (named_of p)
unfolding numbered
value_fill (a_fill bytes []) here next h = absurd h
value_fill (a_fill bytes (named ∷ others)) here next h = refl
value_fill (a_form op args body) here next h = no_fill (form here op (numbered_all next args) (numbered_all (next + nodes args) body)) (plain_form here op (numbered_all next args) (numbered_all (next + nodes args) body))
value_fill _ here next h = refl

pub second_fill : (args : Plans) (next : ℕ) → Describes (plan_at args 1) → is_fill (second (numbered_all next args)) ≡ has_some (named_of (plan_at args 1))
unfolding numbered_all
second_fill no_plans next h = refl
second_fill (plan place p no_plans) next h = refl
second_fill (plan place p (plan at q ps)) next h = value_fill q _ _ h

other_op : (here : At) (op : Op) (ts bs : Trees) → is_naming op ≡ false → IsShaped (form here op ts bs) → declares_descriptor (form here op ts bs) ≡ false
other_op here op ts bs e h = by_terms (has_terms op) refl
  where
    by_terms : (b : Bool) → has_terms op ≡ b → declares_descriptor (form here op ts bs) ≡ false
    by_terms true k = (with_terms here op ts bs k h).1
    by_terms false k = (other_form here op ts bs k e).1

form_declares : (op : Op) (args body : Plans) (here : At) (next : ℕ) → IsShaped (numbered here next (a_form op args body)) → Where (is_naming op) (Describes (plan_at args 1))
    → declares_descriptor (numbered here next (a_form op args body)) ≡ has_some (declared_by (a_form op args body))
unfolding numbered
form_declares (Op.Declaration Declaration.Name) args body here next h k = (name_form here (numbered_all next args) (numbered_all (next + nodes args) body) h).1 ∙ second_fill args next k
form_declares op args body here next h k = by_naming (is_naming op) refl
  where
    by_naming : (b : Bool) → is_naming op ≡ b → declares_descriptor (form here op (numbered_all next args) (numbered_all (next + nodes args) body)) ≡ has_some (declared_by (a_form op args body))
    by_naming true e = absurd cc
    by_naming false e = other_op here op (numbered_all next args) (numbered_all (next + nodes args) body) e h

declares : (p : Plan) (here : At) (next : ℕ) → IsWhole p → declares_descriptor (numbered here next p) ≡ has_some (declared_by p)
unfolding numbered
declares (a_form op args body) here next h = form_declares op args body here next (shaped_at (a_form op args body) nowhere here 0 next h.0) h.1.0
declares _ here next h = refl

-- ---- the terms that are left

form_left : (here : At) (op : Op) (ts bs : Trees) → has_terms op ≡ false → IsShaped (form here op ts bs) → left_term (form here op ts bs) ≡ form here op ts bs
form_left here (Op.Declaration Declaration.Name) ts bs e h = (name_form here ts bs h).0
form_left here op ts bs e h = by_naming (is_naming op) refl
  where
    by_naming : (b : Bool) → is_naming op ≡ b → left_term (form here op ts bs) ≡ form here op ts bs
    by_naming true k = absurd cc
    by_naming false k = (other_form here op ts bs e k).0

body_left : (op : Op) (args body : Plans) (here there : At) (next more : ℕ) (b : Bool) → has_terms op ≡ b → IsShaped (numbered here next (a_form op args body)) → Where b (AreWhole body)
    → (AreWhole body → bare_all (left_terms (numbered_all (next + nodes args) body)) ≡ bare_all (numbered_all (more + nodes args) (stripped body)))
    → bare (left_term (numbered here next (a_form op args body))) ≡ bare (numbered there more (a_form op args (if b then stripped body else body)))
unfolding numbered
body_left op args body here there next more true e h k go =
    let ts : Trees = numbered_all next args in
    let us : Trees = numbered_all more args in
    let bs : Trees = numbered_all (next + nodes args) body in
    let cs : Trees = numbered_all (more + nodes args) (stripped body) in
    ap bare (with_terms here op ts bs e h).0 ∙ bare_form here op ts (left_terms bs)
    ∙ ap (λ x. form nowhere op x (bare_all (left_terms bs))) (all_renumbered args next more)
    ∙ ap (form nowhere op (bare_all us)) (go k) ∙ sym (bare_form there op us cs)
body_left op args body here there next more false e h k go =
    ap bare (form_left here op (numbered_all next args) (numbered_all (next + nodes args) body) e h) ∙ renumbered (a_form op args body) here there next more

mutual
  unfolding numbered numbered_all

  term_left : (p : Plan) (here there : At) (next more : ℕ) → IsWhole p → bare (left_term (numbered here next p)) ≡ bare (numbered there more (closed p))
  term_left (a_form op args body) here there next more h =
      body_left op args body here there next more (has_terms op) refl (shaped_at (a_form op args body) nowhere here 0 next h.0) h.1.1 (λ k. terms_left body (next + nodes args) (more + nodes args) k)
  term_left p here there next more h = renumbered p here there next more

  pub terms_left : (ps : Plans) (next more : ℕ) → AreWhole ps → bare_all (left_terms (numbered_all next ps)) ≡ bare_all (numbered_all more (stripped ps))
  terms_left no_plans next more h = refl
  terms_left (plan place p ps) next more h =
      let here : At = record { id = next; place = place } in
      by_names (declared_by p) (declares p here (suc next) h.0) (term_left p here (record { id = more; place = place }) (suc next) (suc more) h.0)
      (terms_left ps (suc (next + inside p)) more h.1) (terms_left ps (suc (next + inside p)) (suc (more + inside (closed p))) h.1)
    where
      by_names : (names : List NamedDescriptor) → declares_descriptor (numbered (record { id = next; place = place }) (suc next) p) ≡ has_some names
          → bare (left_term (numbered (record { id = next; place = place }) (suc next) p)) ≡ bare (numbered (record { id = more; place = place }) (suc more) (closed p))
          → bare_all (left_terms (numbered_all (suc (next + inside p)) ps)) ≡ bare_all (numbered_all more (stripped ps))
          → bare_all (left_terms (numbered_all (suc (next + inside p)) ps)) ≡ bare_all (numbered_all (suc (more + inside (closed p))) (stripped ps))
          → bare_all (left_terms (numbered_all next (plan place p ps))) ≡ bare_all (numbered_all more (join (unless_declared names (alone place (closed p))) (stripped ps)))
      by_names [] e first gone rest =
          let t : Tree = numbered (record { id = next; place = place }) (suc next) p in
          let others : Trees = left_terms (numbered_all (suc (next + inside p)) ps) in
          ap (λ b. bare_all (if b then others else tree (left_term t) others)) e ∙ ap (λ x. tree x (bare_all others)) first
          ∙ ap (tree (bare (numbered (record { id = more; place = place }) (suc more) (closed p)))) rest
      by_names (named ∷ names) e first gone rest =
          let t : Tree = numbered (record { id = next; place = place }) (suc next) p in
          let others : Trees = left_terms (numbered_all (suc (next + inside p)) ps) in
          ap (λ b. bare_all (if b then others else tree (left_term t) others)) e ∙ gone
