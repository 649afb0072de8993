-- A term that is folded keeps the places of those in its braces.
use Rattle.std.proofs.Common.{◌≡◌, [], ◌∷◌, ℕ, Vec, Global, refl, sym, ap, ◌∙◌}
use Rattle.std.specs.Prelude.{if◌then◌else◌}
use Rattle.iasl_messages.specs.declared.place.Place.{Place}
use Rattle.acpi_values.specs.declared.operator.Plain.{Plain}
use Rattle.asl_tree.specs.declared.path.Path.{Path}
use Rattle.asl_tree.specs.declared.term.Op.{Op}
use Rattle.asl_tree.specs.declared.term.Node.{Node}
use Rattle.asl_tree.specs.declared.term.Term.{Term}
use Rattle.asl_tree.specs.declared.term.Term as D
use Rattle.term_places.specs.Places.{holds_terms, inner_places, places_of, term_places}
use Rattle.term_places.proofs.Places.{form_places}

pub number_inside : (n : ℕ) → inner_places (D.Integer n) ≡ []
unfolding inner_places
number_inside n = refl

-- an operator has no terms in braces
pub plain_inside : (op : Plain) (args body : Vec Node Global) → inner_places (D.Form (Op.Plain op) args body) ≡ []
plain_inside op args body = form_places (Op.Plain op) args body

-- what an operator becomes has none either
pub plain_places : (place : Place) (t made : Term) (op : Op) (plain : Plain) (args body : Vec Node Global) → t ≡ D.Form op args body → op ≡ Op.Plain plain → inner_places made ≡ [] → place ∷ inner_places made ≡ place ∷ inner_places t
plain_places place t made op plain args body e is none =
    ap (λ ps. place ∷ ps) (none ∙ sym (plain_inside plain args body) ∙ ap (λ o. inner_places (D.Form o args body)) (sym is) ∙ sym (ap inner_places e))

pub form_kept : (place : Place) (t : Term) (op : Op) (args body made more : Vec Node Global) → t ≡ D.Form op args body → places_of more.items ≡ places_of body.items → place ∷ inner_places (D.Form op made more) ≡ place ∷ inner_places t
form_kept place t op args body made more e same =
    ap (λ ps. place ∷ ps) (form_places op made more ∙ ap (λ ps. if holds_terms op then ps else []) same ∙ sym (form_places op args body) ∙ sym (ap inner_places e))

pub call_kept : (place : Place) (t : Term) (path : Path) (args made : Vec Node Global) → t ≡ D.Call path args → place ∷ inner_places (D.Call path made) ≡ place ∷ inner_places t
unfolding inner_places
call_kept place t path args made e = sym (ap (λ t. place ∷ inner_places t) e)

-- a node with another term
pub put_places : (node new : Node) (t : Term) → new ≡ record { id = node.id; place = node.place; term = t } → term_places new ≡ node.place ∷ inner_places t
put_places node new t e = ap term_places e
