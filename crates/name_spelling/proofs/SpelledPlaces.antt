-- Nodes whose names are spelled keep their places.
use Rattle.std.proofs.Common.{◌≡◌, [], ◌∷◌, Vec, Global, sym, ap, ◌∙◌}
use Rattle.std.specs.Prelude.{if◌then◌else◌}
use Rattle.iasl_messages.specs.declared.place.Place.{Place}
use Rattle.asl_tree.specs.declared.path.Path.{Path}
use Rattle.asl_tree.specs.declared.term.Op.{Op}
use Rattle.asl_tree.specs.declared.term.Node.{Node}
use Rattle.asl_tree.specs.declared.term.Term.{Term}
use Rattle.asl_tree.specs.declared.term.Term as D
use Rattle.term_places.specs.Places.{holds_terms, inner_places, places_of}
use Rattle.term_places.proofs.Places.{form_places}

pub name_places : (place : Place) (t : Term) (path new : Path) → t ≡ D.Name path → place ∷ inner_places (D.Name new) ≡ place ∷ inner_places t
unfolding inner_places
name_places place t path new e = sym (ap (λ t. place ∷ inner_places t) e)

pub call_places : (place : Place) (t : Term) (path new : Path) (args more : Vec Node Global) → t ≡ D.Call path args → place ∷ inner_places (D.Call new more) ≡ place ∷ inner_places t
unfolding inner_places
call_places place t path new args more e = sym (ap (λ t. place ∷ inner_places t) e)

pub form_same_places : (place : Place) (t : Term) (op : Op) (args body more others : Vec Node Global) → t ≡ D.Form op args body → places_of others.items ≡ places_of body.items → place ∷ inner_places (D.Form op more others) ≡ place ∷ inner_places t
form_same_places place t op args body more others e same =
    ap (λ ps. place ∷ ps) (form_places op more others ∙ ap (λ ps. if holds_terms op then ps else []) same ∙ sym (form_places op args body) ∙ ap inner_places (sym e))
