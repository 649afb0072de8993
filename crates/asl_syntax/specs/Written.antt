-- What a source writes, as plain data: the tree of its syntax.
use Rattle.std.specs.Prelude.{ℕ, List, [], ◌∷◌, Option, Some, None}
use Rattle.iasl_messages.specs.declared.place.Place.{Place}
use Rattle.asl_syntax.specs.declared.raw.Infix.{Infix}
use Rattle.asl_syntax.specs.declared.raw.Raw.{Raw}
use Rattle.asl_syntax.specs.declared.raw.Raw.TheOpen as node
use Rattle.asl_syntax.specs.declared.raw.Raw.TheOpen.{Raw-F}
use Rattle.asl_syntax.specs.declared.raw.Raw.TheFolds.{fold-Raw}

mutual
  pub data Written : Type 0 where
    number : (place : Place) (value : ℕ) → Written
    text : (place : Place) (bytes : List ℕ) → Written
    item : (place : Place) (word : List ℕ) (args body : WrittenGroup) → Written
    apply : (place : Place) (op : Infix) (args : Writtens) → Written
    listed : (place : Place) (items : Writtens) → Written
    comma : Written
    semicolon : Written
    empty : Written

  pub data Writtens : Type 0 where
    none : Writtens
    more : (first : Written) (rest : Writtens) → Writtens

  -- what stands in brackets, where they are there
  pub data WrittenGroup : Type 0 where
    absent : WrittenGroup
    given : (inside : Writtens) → WrittenGroup

abbrev pub row : List Written → Writtens
row [] = none
row (w ∷ ws) = more w (row ws)

abbrev pub group : Option (List Written) → WrittenGroup
group None = absent
group (Some ws) = given (row ws)

-- one layer of the tree
abbrev pub layer : Raw-F Written → Written
layer (node.Number place value) = number place value
layer (node.Text place bytes) = text place bytes
layer (node.Item place word args body) = item place word (group args) (group body)
layer (node.Apply place op args) = apply place op (row args)
layer (node.List place items) = listed place (row items)
layer node.Comma = comma
layer node.Semicolon = semicolon
layer node.Empty = empty

unfoldable pub written : Raw → Written
written = fold-Raw Written layer

unfoldable pub writtens : List Raw → Writtens
writtens [] = none
writtens (raw ∷ raws) = more (written raw) (writtens raws)

abbrev pub written_in : Option (List Raw) → WrittenGroup
written_in None = absent
written_in (Some raws) = given (writtens raws)
