-- The places of the terms of term lists, in preorder: a term, then the terms in its braces, then the term behind it. Operands, the
-- elements of a Package, the bytes of a Buffer and the units of a field are in no such list.
use Rattle.std.specs.Prelude.{Bool, true, false, if◌then◌else◌, List, [], ◌∷◌, ◌++◌}
use Rattle.iasl_messages.specs.declared.place.Place.{Place}
use Rattle.asl_tree.specs.declared.term.Op.{Op}
use Rattle.asl_tree.specs.declared.term.Declaration.TheVariants as Declaration
use Rattle.asl_tree.specs.declared.term.Control.TheVariants as Control
use Rattle.asl_tree.specs.declared.term.Node.{Node}
use Rattle.asl_tree.specs.declared.term.Term.{Term}
use Rattle.asl_tree.specs.declared.term.Term as D

-- whether what stands in the braces of a form that has bytes is a list of terms
abbrev pub holds_terms : Op → Bool
holds_terms (Op.Declaration Declaration.Method) = true
holds_terms (Op.Declaration Declaration.Device) = true
holds_terms (Op.Declaration Declaration.ThermalZone) = true
holds_terms (Op.Declaration Declaration.PowerResource) = true
holds_terms (Op.Declaration Declaration.Processor) = true
holds_terms (Op.Declaration Declaration.Scope) = true
holds_terms (Op.Control Control.If) = true
holds_terms (Op.Control Control.ElseIf) = true
holds_terms (Op.Control Control.Else) = true
holds_terms (Op.Control Control.While) = true
holds_terms _ = false

unfoldable mutual
  -- of the terms in a term's braces
  pub inner_places : Term → List Place
  inner_places (D.Form' op shape args shape' body) = if holds_terms op then row_places body else []
  inner_places _ = []

  pub row_places : {m : _} → D.Row_of-Node m → List Place
  row_places D.end_of-Node = []
  row_places (D.more_of-Node id place term rest) = (place ∷ inner_places term) ++ row_places rest

-- a term's own, and those in its braces
abbrev pub term_places : Node → List Place
term_places node = node.place ∷ inner_places node.term

-- of a list of terms
unfoldable pub places_of : List Node → List Place
places_of [] = []
places_of (node ∷ nodes) = term_places node ++ places_of nodes
