-- The tree of a source as the code keeps it: each node as the one that contracts see.
use Rattle.asl_syntax.specs.declared.raw.Raw.{Raw}
use Rattle.asl_syntax.specs.declared.raw.Raw.TheVariants as raw
use Rattle.asl_syntax.specs.declared.nodes.NodeForm.{NodeForm}
use Rattle.asl_syntax.specs.declared.nodes.NodeForm.TheVariants as form

abbrev pub raw_in : NodeForm → Raw
raw_in (form.Number place value) = raw.Number place value
raw_in (form.Text place text) = raw.Text place text
raw_in (form.Item place word args body) = raw.Item place word args body
raw_in (form.Apply place op args) = raw.Apply place op args
raw_in (form.List place items) = raw.List place items
raw_in form.Comma = raw.Comma
raw_in form.Semicolon = raw.Semicolon
raw_in form.Empty = raw.Empty
