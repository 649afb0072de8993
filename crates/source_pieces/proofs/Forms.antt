-- What a formed form has in its braces: whether a Continue leaves it, and what stands for it.
use Rattle.std.proofs.Common.{◌≡◌, Bool, true, false, List, [], ◌∷◌, ◌++◌, Some, refl, sym, ap, ◌∙◌}
use Rattle.std.specs.Prelude.{◌&&◌, ◌||◌}
use Rattle.iasl_messages.specs.declared.place.Place.{Place}
use Rattle.asl_tree.specs.declared.term.Op.{Op}
use Rattle.asl_tree.specs.declared.term.Declaration.TheVariants as Declaration
use Rattle.asl_tree.specs.declared.term.Control.TheVariants as Control
use Rattle.asl_tree.specs.Tree.{At, Tree, Integer, Use, Method, Container', Scope, If, ElseIf, Else, While, For, Switch, Case, Default, Continue, Trees, no_trees, tree}
use Rattle.asl_tree.specs.View.{form}
use Rattle.term_places.specs.Places.{holds_terms}
use Rattle.acpi_names.specs.declared.part.NameRole.{NameRole}
use Rattle.acpi_names.specs.declared.part.NameRole.TheVariants as P
use Rattle.acpi_names.specs.declared.part.What.TheVariants as W
use Rattle.acpi_names.specs.Parts.{are, part_of}
use Rattle.aml_sizes.proofs.Holds.{holds, form_holds}
use Rattle.hidden_locals.specs.Crossing.{has_continue, have_continue}
use Rattle.switch_loops.specs.declared.kind.TermRole.{TermRole}
use Rattle.switch_loops.specs.Kinds.{flagged as flagged_kind, part_kind, form_kind}
use Rattle.switch_loops.specs.Places.{DefaultPlaces, body_inside, case_places, default_places, form_places, loop_places, own_places, turn_places}
use Rattle.switch_loops.proofs.KindRows.{tree_kind, kind_form}
use Rattle.named_sessions.specs.Shaped.{AreNamed, IsFormed, AreFormed, AreFormedCases}
use Rattle.term_plans.specs.Plans.{Plans}
use Rattle.source_pieces.specs.Places.{form_is_left, steps_inside, is_inside, form_at, case_at, default_at}

-- what is formed where symbols, ElseIfs and Switches may stand, but no Fors and nothing that prints
abbrev pub Formed : Tree → Type 0
Formed = IsFormed ⊥ AreNamed (Unit {0}) (Unit {0})

abbrev pub FormedTerms : Trees → Type 0
FormedTerms = AreFormed ⊥ AreNamed (Unit {0}) (Unit {0})

abbrev pub FormedCases : Trees → Type 0
FormedCases = AreFormedCases ⊥ AreNamed (Unit {0}) (Unit {0})

-- ---- a form of another kind of term

-- loops, and what has to do with Switches
abbrev of_switches : TermRole → Bool
of_switches TermRole.Loop = true
of_switches TermRole.Switch = true
of_switches TermRole.Case = true
of_switches TermRole.Default = true
of_switches TermRole.Continue = true
of_switches kind = false

abbrev is_case : TermRole → Bool
is_case TermRole.Case = true
is_case TermRole.Default = true
is_case kind = false

abbrev pub is_plain : Op → Bool
is_plain (Op.Control Control.While) = false
is_plain (Op.Control Control.For) = false
is_plain (Op.Control Control.Switch) = false
is_plain (Op.Control Control.Case) = false
is_plain (Op.Control Control.Default) = false
is_plain (Op.Control Control.Continue) = false
is_plain op = true

abbrev has_cases : Op → Bool
has_cases (Op.Control Control.Case) = true
has_cases (Op.Control Control.Default) = true
has_cases op = false

part_plain : (p : NameRole) → of_switches (part_kind p) ≡ false
part_plain (P.Declares n (W.Method flags) true) = refl
part_plain (P.Declares n (W.Method flags) false) = refl
part_plain (P.Declares n what true) = refl
part_plain (P.Declares n what false) = refl
part_plain p = refl

no_case : (k : TermRole) → of_switches k ≡ false → is_case k ≡ false
no_case TermRole.Case e = absurd cc
no_case TermRole.Default e = absurd cc
no_case k e = refl

flag_case : (b : Bool) (k : TermRole) → is_case k ≡ false → is_case (flagged_kind b k) ≡ false
flag_case true k e = e
flag_case false k e = refl

op_plain : (op : Op) (args body : Trees) → is_plain op ≡ true → of_switches (form_kind op args body) ≡ false
op_plain (Op.Control Control.While) args body e = absurd cc
op_plain (Op.Control Control.For) args body e = absurd cc
op_plain (Op.Control Control.Switch) args body e = absurd cc
op_plain (Op.Control Control.Case) args body e = absurd cc
op_plain (Op.Control Control.Default) args body e = absurd cc
op_plain (Op.Control Control.Continue) args body e = absurd cc
op_plain op args body e = part_plain (part_of op args body)

op_no_case : (op : Op) (args body : Trees) → has_cases op ≡ false → is_case (form_kind op args body) ≡ false
op_no_case (Op.Control Control.Case) args body e = absurd cc
op_no_case (Op.Control Control.Default) args body e = absurd cc
op_no_case (Op.Control Control.Switch) args body e = flag_case (are 1 args) TermRole.Switch refl
op_no_case (Op.Control Control.Continue) args body e = flag_case (are 0 args && are 0 body) TermRole.Continue refl
op_no_case (Op.Control Control.While) args body e = flag_case (are 1 args) TermRole.Loop refl
op_no_case (Op.Control Control.For) args body e = flag_case (are 3 args) TermRole.Loop refl
op_no_case op args body e = no_case (part_kind (part_of op args body)) (part_plain (part_of op args body))

other_kind : (t : Tree) → holds t ≡ false → of_switches (tree_kind t) ≡ false → tree_kind t ≡ TermRole.Other
other_kind (Method at name flags body) h e = absurd cc
other_kind (Container' kind at name body) h e = absurd cc
other_kind (Scope here at name body) h e = absurd cc
other_kind (If test body) h e = absurd cc
other_kind (ElseIf test body) h e = absurd cc
other_kind (Else body) h e = absurd cc
other_kind (While test body) h e = absurd cc
other_kind (For start test step body) h e = absurd cc
other_kind (Switch value cases) h e = absurd cc
other_kind (Case value body) h e = absurd cc
other_kind (Default body) h e = absurd cc
other_kind Continue h e = absurd cc
other_kind t h e = refl

-- one that has no terms in its braces, and nothing to do with Switches
pub plain_kind : (here : At) (op : Op) (args body : Trees) → holds_terms op ≡ false → is_plain op ≡ true → tree_kind (form here op args body) ≡ TermRole.Other
plain_kind here op args body h e =
    other_kind (form here op args body) (form_holds here op args body h) (ap of_switches (kind_form here op args body) ∙ op_plain op args body e)

-- ---- whether a Continue leaves it

other_left : (t : Tree) → tree_kind t ≡ TermRole.Other → has_continue t ≡ false
other_left (Container' kind at name body) e = absurd cc
other_left (Scope here at name body) e = absurd cc
other_left (If test body) e = absurd cc
other_left (ElseIf test body) e = absurd cc
other_left (Else body) e = absurd cc
other_left (Switch value cases) e = absurd cc
other_left (Case value body) e = absurd cc
other_left (Default body) e = absurd cc
other_left Continue e = absurd cc
other_left t e = refl

pub form_left : (here : At) (op : Op) (args body : Trees) (left : Bool) → Formed (form here op args body) → (FormedTerms body → have_continue body ≡ left) → (FormedCases body → have_continue body ≡ left) → has_continue (form here op args body) ≡ form_is_left op left
form_left here (Op.Declaration Declaration.Method) (tree (Use at name) (tree (Integer arity) no_trees)) body left h i k = refl
form_left here (Op.Declaration Declaration.Method) _ body left h i k = absurd h
form_left here (Op.Declaration Declaration.Device) (tree (Use at name) no_trees) body left h i k = i h.2
form_left here (Op.Declaration Declaration.Device) _ body left h i k = absurd h
form_left here (Op.Declaration Declaration.ThermalZone) (tree (Use at name) no_trees) body left h i k = i h.2
form_left here (Op.Declaration Declaration.ThermalZone) _ body left h i k = absurd h
form_left here (Op.Declaration Declaration.PowerResource) (tree (Use at name) (tree (Integer level) (tree (Integer order) no_trees))) body left h i k = i h.2
form_left here (Op.Declaration Declaration.PowerResource) _ body left h i k = absurd h
form_left here (Op.Declaration Declaration.Processor) (tree (Use at name) (tree (Integer number) (tree (Integer address) (tree (Integer size) no_trees)))) body left h i k = i h.2
form_left here (Op.Declaration Declaration.Processor) _ body left h i k = absurd h
form_left here (Op.Declaration Declaration.Scope) (tree (Use at name) no_trees) body left h i k = i h.1
form_left here (Op.Declaration Declaration.Scope) _ body left h i k = absurd h
form_left here (Op.Control Control.If) (tree test no_trees) body left h i k = i h.2
form_left here (Op.Control Control.If) _ body left h i k = absurd h
form_left here (Op.Control Control.ElseIf) (tree test no_trees) body left h i k = i h.2
form_left here (Op.Control Control.ElseIf) _ body left h i k = absurd h
form_left here (Op.Control Control.Else) no_trees body left h i k = i h
form_left here (Op.Control Control.Else) _ body left h i k = absurd h
form_left here (Op.Control Control.While) (tree test no_trees) body left h i k = refl
form_left here (Op.Control Control.While) _ body left h i k = absurd h
form_left here (Op.Control Control.For) (tree start (tree test (tree step no_trees))) body left h i k = absurd h.0
form_left here (Op.Control Control.For) _ body left h i k = absurd h
form_left here (Op.Control Control.Switch) (tree value no_trees) body left h i k = k h.3
form_left here (Op.Control Control.Switch) _ body left h i k = absurd h
form_left here (Op.Control Control.Case) (tree value no_trees) body left h i k = absurd h
form_left here (Op.Control Control.Case) _ body left h i k = absurd h
form_left here (Op.Control Control.Default) no_trees body left h i k = absurd h
form_left here (Op.Control Control.Default) _ body left h i k = absurd h
form_left here (Op.Control Control.Continue) no_trees no_trees left h i k = refl
form_left here (Op.Control Control.Continue) _ _ left h i k = absurd h
form_left here op args body left h i k = other_left (form here op args body) (plain_kind here op args body refl refl)

-- ---- the Cases of a Switch

case_kind : (Forms : Type 0) (t : Tree) (cases : Trees) → AreFormedCases Forms AreNamed (Unit {0}) (Unit {0}) (tree t cases) → is_case (tree_kind t) ≡ true
case_kind Forms (Case value body) cases h = refl
case_kind Forms (Default body) cases h = refl
case_kind Forms t cases h = absurd h

-- nothing else stands there
pub not_among : (Forms : Type 0) (here : At) (op : Op) (args body cases : Trees) → has_cases op ≡ false → AreFormedCases Forms AreNamed (Unit {0}) (Unit {0}) (tree (form here op args body) cases) → ⊥
not_among Forms here op args body cases e h =
    let both : true ≡ false = sym (case_kind Forms (form here op args body) cases h) ∙ ap is_case (kind_form here op args body) ∙ op_no_case op args body e in absurd cc

pub case_left : (here : At) (op : Op) (args body cases : Trees) (left more : Bool) → FormedCases (tree (form here op args body) cases) → (FormedTerms body → have_continue body ≡ left) → (FormedCases cases → have_continue cases ≡ more)
    → has_continue (form here op args body) || have_continue cases ≡ form_is_left op left || more
case_left here (Op.Control Control.Case) (tree value no_trees) body cases left more h i k = ap (λ b. b || have_continue cases) (i h.1) ∙ ap (λ b. left || b) (k h.2)
case_left here (Op.Control Control.Case) _ body cases left more h i k = absurd h
case_left here (Op.Control Control.Default) no_trees body no_trees left more h i k = ap (λ b. b || false) (i h) ∙ ap (λ b. left || b) (k tt)
case_left here (Op.Control Control.Default) no_trees body (tree t ts) left more h i k = absurd h
case_left here (Op.Control Control.Default) _ body cases left more h i k = absurd h
case_left here op args body cases left more h i k = absurd (not_among ⊥ here op args body cases refl h)

-- ---- what stands for it

stays : (p : NameRole) (op : Op) (inside left : Bool) (place : Place) (inner chain : List Place) → form_places (part_kind p) op inside left place inner chain ≡ own_places op place inner
stays (P.Declares n (W.Method flags) true) op inside left place inner chain = refl
stays (P.Declares n (W.Method flags) false) op inside left place inner chain = refl
stays (P.Declares n what true) op inside left place inner chain = refl
stays (P.Declares n what false) op inside left place inner chain = refl
stays p op inside left place inner chain = refl

module _ (args' : Plans) (inside left : Bool) (place : Place) (inner chain : List Place) (inner' : Bool → List Place → List Place) (chain' : List Place → List Place) where
  pub form_planned : (here : At) (op : Op) (args body : Trees) → Formed (form here op args body) → (FormedTerms body → inner ≡ inner' (body_inside op inside) []) → (FormedCases body → have_continue body ≡ left) → (FormedCases body → chain ≡ chain' [])
      → form_places (form_kind op args body) op inside (have_continue body) place inner chain ≡ form_at op args' inside left [] place (inner' (is_inside op inside) (steps_inside op args' [])) (chain' (steps_inside op args' []))
  form_planned here (Op.Declaration Declaration.Method) (tree (Use at name) (tree (Integer arity) no_trees)) body h i k l = ap (λ ps. place ∷ ps) (i h.2)
  form_planned here (Op.Declaration Declaration.Method) _ body h i k l = absurd h
  form_planned here (Op.Declaration Declaration.Device) (tree (Use at name) no_trees) body h i k l = ap (λ ps. place ∷ ps) (i h.2)
  form_planned here (Op.Declaration Declaration.Device) _ body h i k l = absurd h
  form_planned here (Op.Declaration Declaration.ThermalZone) (tree (Use at name) no_trees) body h i k l = ap (λ ps. place ∷ ps) (i h.2)
  form_planned here (Op.Declaration Declaration.ThermalZone) _ body h i k l = absurd h
  form_planned here (Op.Declaration Declaration.PowerResource) (tree (Use at name) (tree (Integer level) (tree (Integer order) no_trees))) body h i k l = ap (λ ps. place ∷ ps) (i h.2)
  form_planned here (Op.Declaration Declaration.PowerResource) _ body h i k l = absurd h
  form_planned here (Op.Declaration Declaration.Processor) (tree (Use at name) (tree (Integer number) (tree (Integer address) (tree (Integer size) no_trees)))) body h i k l = ap (λ ps. place ∷ ps) (i h.2)
  form_planned here (Op.Declaration Declaration.Processor) _ body h i k l = absurd h
  form_planned here (Op.Declaration Declaration.Scope) (tree (Use at name) no_trees) body h i k l = ap (λ ps. place ∷ ps) (i h.1)
  form_planned here (Op.Declaration Declaration.Scope) _ body h i k l = absurd h
  form_planned here (Op.Control Control.If) (tree test no_trees) body h i k l = ap (λ ps. place ∷ ps) (i h.2)
  form_planned here (Op.Control Control.If) _ body h i k l = absurd h
  form_planned here (Op.Control Control.ElseIf) (tree test no_trees) body h i k l = ap (λ ps. place ∷ ps) (i h.2)
  form_planned here (Op.Control Control.ElseIf) _ body h i k l = absurd h
  form_planned here (Op.Control Control.Else) no_trees body h i k l = ap (λ ps. place ∷ ps) (i h)
  form_planned here (Op.Control Control.Else) _ body h i k l = absurd h
  form_planned here (Op.Control Control.While) (tree test no_trees) body h i k l = ap (λ ps. place ∷ ps) (i h.2)
  form_planned here (Op.Control Control.While) _ body h i k l = absurd h
  form_planned here (Op.Control Control.For) (tree start (tree test (tree step no_trees))) body h i k l = absurd h.0
  form_planned here (Op.Control Control.For) _ body h i k l = absurd h
  form_planned here (Op.Control Control.Switch) (tree value no_trees) body h i k l =
      ap (λ b. loop_places b inside place (turn_places place chain)) (k h.3) ∙ ap (λ ps. loop_places left inside place (turn_places place ps)) (l h.3)
  form_planned here (Op.Control Control.Switch) _ body h i k l = absurd h
  form_planned here (Op.Control Control.Case) (tree value no_trees) body h i k l = absurd h
  form_planned here (Op.Control Control.Case) _ body h i k l = absurd h
  form_planned here (Op.Control Control.Default) no_trees body h i k l = absurd h
  form_planned here (Op.Control Control.Default) _ body h i k l = absurd h
  form_planned here (Op.Control Control.Continue) no_trees no_trees h i k l = refl
  form_planned here (Op.Control Control.Continue) _ _ h i k l = absurd h
  form_planned here op args body h i k l = stays (part_of op args body) op inside (have_continue body) place inner chain

-- the Cases, and the Default
pub case_planned : (here : At) (op : Op) (args body cases : Trees) (place : Place) (inner inner' more more' : List Place) → FormedCases (tree (form here op args body) cases) → (FormedTerms body → inner ≡ inner') → (FormedCases cases → more ≡ more')
    → case_places (form_kind op args body) place inner ++ more ≡ case_at op place inner' ++ more'
case_planned here (Op.Control Control.Case) (tree value no_trees) body cases place inner inner' more more' h i k = ap (λ ps. (place ∷ ps) ++ more) (i h.1) ∙ ap (λ ps. (place ∷ inner') ++ ps) (k h.2)
case_planned here (Op.Control Control.Case) _ body cases place inner inner' more more' h i k = absurd h
case_planned here (Op.Control Control.Default) no_trees body no_trees place inner inner' more more' h i k = k tt
case_planned here (Op.Control Control.Default) no_trees body (tree t ts) place inner inner' more more' h i k = absurd h
case_planned here (Op.Control Control.Default) _ body cases place inner inner' more more' h i k = absurd h
case_planned here op args body cases place inner inner' more more' h i k = absurd (not_among ⊥ here op args body cases refl h)

pub default_planned : (here : At) (op : Op) (args body cases : Trees) (place : Place) (inner inner' : List Place) (later later' : DefaultPlaces) → FormedCases (tree (form here op args body) cases) → (FormedTerms body → inner ≡ inner') → (FormedCases cases → later ≡ later')
    → default_places (form_kind op args body) place inner later ≡ default_at op place inner' later'
default_planned here (Op.Control Control.Case) (tree value no_trees) body cases place inner inner' later later' h i k = k h.2
default_planned here (Op.Control Control.Case) _ body cases place inner inner' later later' h i k = absurd h
default_planned here (Op.Control Control.Default) no_trees body no_trees place inner inner' later later' h i k = ap (λ ps. Some (place, ps)) (i h)
default_planned here (Op.Control Control.Default) no_trees body (tree t ts) place inner inner' later later' h i k = absurd h
default_planned here (Op.Control Control.Default) _ body cases place inner inner' later later' h i k = absurd h
default_planned here op args body cases place inner inner' later later' h i k = absurd (not_among ⊥ here op args body cases refl h)
