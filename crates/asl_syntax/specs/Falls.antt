-- Each list of a node is less than the node, and each node of a list less than that.
use Rattle.std.proofs.Common.{◌≡◌, ℕ, suc, ◌+◌, ◌*◌, ◌≤◌, List, [], ◌∷◌, Option, Some, None, refl, ap, arith}
use Rattle.std.specs.Prelude.{max}
use denote.Param.Weighed.{most}
use Rattle.iasl_messages.specs.declared.place.Place.{Place}
use Rattle.asl_syntax.specs.declared.raw.Infix.{Infix}
use Rattle.asl_syntax.specs.declared.raw.Raw.{Raw}
use Rattle.asl_syntax.specs.declared.raw.Raw.TheVariants as raw
use Rattle.asl_syntax.specs.declared.nodes.NodeForm.{NodeForm}
use Rattle.asl_syntax.specs.declared.nodes.NodeForm.TheVariants as form
use Rattle.asl_syntax.specs.declared.nodes.SyntaxNode.TheDeep.{deep-NodeForm}
use Rattle.asl_syntax.specs.Nodes.{raw_in}
use Rattle.asl_syntax.specs.Written.{writtens}
use Rattle.asl_syntax.specs.Sizes.{size, size_at, sizes_at, size_in_at, extent, extent_in}
use Rattle.asl_syntax.specs.Views.{written_item, written_apply, written_list}

pub size_item : (place : Place) (w : List ℕ) (args body : Option (List Raw)) →
    size_at (raw.Item place w args body) ≡ suc (size_in_at args + size_in_at body)
unfolding size_at size_in_at
size_item place w args body = ap size (written_item place w args body)

pub size_apply : (place : Place) (op : Infix) (args : List Raw) → size_at (raw.Apply place op args) ≡ suc (sizes_at args)
unfolding size_at sizes_at
size_apply place op args = ap size (written_apply place op args)

pub size_list : (place : Place) (items : List Raw) → size_at (raw.List place items) ≡ suc (sizes_at items)
unfolding size_at sizes_at
size_list place items = ap size (written_list place items)

pub size_none : size_in_at None ≡ 0
unfolding size_in_at
size_none = refl

pub size_some : (raws : List Raw) → size_in_at (Some raws) ≡ sizes_at raws
unfolding sizes_at size_in_at
size_some raws = refl

sizes_more : (first : Raw) (rest : List Raw) → sizes_at (first ∷ rest) ≡ size_at first + sizes_at rest
unfolding sizes_at size_at writtens
sizes_more first rest = refl

pub node_falls : (n : NodeForm) → max (deep-NodeForm n) 0 ≤ extent (raw_in n)
node_falls (form.Number place value) = omega arith
node_falls (form.Text place text) = omega arith
node_falls (form.Item place word None None) = omega arith
node_falls (form.Item place word (Some args) None) = omega (arith, size_item place word (Some args) None, size_some args, size_none)
node_falls (form.Item place word None (Some body)) = omega (arith, size_item place word None (Some body), size_some body, size_none)
node_falls (form.Item place word (Some args) (Some body)) =
    omega (arith, size_item place word (Some args) (Some body), size_some args, size_some body)
node_falls (form.Apply place op args) = omega (arith, size_apply place op args)
node_falls (form.List place items) = omega (arith, size_list place items)
node_falls form.Comma = omega arith
node_falls form.Semicolon = omega arith
node_falls form.Empty = omega arith

pub nodes_fall : (ns : List Raw) → max (most (λ raw. extent raw + 1) ns) 0 ≤ extent_in ns
nodes_fall [] = omega arith
nodes_fall (n ∷ ns) = omega (arith, nodes_fall ns, sizes_more n ns)
