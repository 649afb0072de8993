-- Trees while they grow. A tree that would be too tall is not kept, but for the first token of each of its levels.
use Rattle.std.specs.Prelude.{ℕ, ◌-◌, List, [], ◌∷◌, ◌++◌, Option, Some, None, if◌then◌else◌, nat_lt, nat_le, length, take, slice_get, Bool}
use Rattle.asl_syntax.specs.declared.raw.Infix.{Infix}
use Rattle.asl_syntax.specs.declared.raw.Raw.{Raw}
use Rattle.asl_syntax.specs.declared.raw.Raw.TheVariants as raw
use Rattle.asl_syntax.specs.declared.mark.Spot.{Spot}
use Rattle.asl_syntax.specs.declared.subtree.Subtree.{Subtree}
use Rattle.asl_syntax.specs.declared.subtree.Subtrees.{Subtrees}
use Rattle.asl_syntax.specs.Trees.{Tree, a_number, a_text, an_item, a_prefix, a_postfix, a_pair, a_list, a_comma, a_semicolon, an_empty}
use Rattle.asl_syntax.specs.Trees.{Trees, none, more, TreeGroup, absent, given}

-- no node stands under more than so many others, and no more constructs may be open
abbrev pub limit : ℕ
limit = 128

-- ---- levels: the first token of the leftmost node of each, the lowest first

-- of some trees and those behind them
unfoldable pub merged : List ℕ → List ℕ → List ℕ
merged xs ys = take (length ys - length xs) ys ++ xs

unfoldable pub at_depth : ℕ → List ℕ → Option ℕ
at_depth depth xs = if nat_lt depth (length xs) then slice_get xs (length xs - 1 - depth) else None

abbrev pub or_else : ℕ → Option ℕ → ℕ
or_else x None = x
or_else x (Some y) = y

unfoldable pub leading : ℕ → List ℕ → ℕ
leading other xs = or_else other (at_depth 0 xs)

-- ---- a tree, and trees in order

abbrev pub cut : Bool → Option Raw → Option Raw
cut low e = if low then e else None

-- a node with this first token over these levels
unfoldable pub node_over : ℕ → Option Raw → List ℕ → Subtree
node_over first e xs = record { raw = cut (nat_le (length xs) limit) e; levels = xs ++ first ∷ [] }

abbrev pub leaf : ℕ → Raw → Subtree
leaf first e = record { raw = Some e; levels = first ∷ [] }

abbrev pub no_subtrees : Subtrees
no_subtrees = record { raws = Some []; levels = [] }

abbrev pub join : Option (List Raw) → Option Raw → Option (List Raw)
join (Some xs) (Some x) = Some (xs ++ x ∷ [])
join _ _ = None

unfoldable pub joined : Subtrees → Subtree → Subtrees
joined xs x = record { raws = join xs.raws x.raw; levels = merged xs.levels x.levels }

abbrev pub apply_raw : Spot → Infix → Option (List Raw) → Option Raw
apply_raw p o None = None
apply_raw p o (Some xs) = Some (raw.Apply p.place o xs)

-- an operator over its operands, the last of which comes now
unfoldable pub applied : Spot → Infix → Subtrees → Subtree → Subtree
applied p o xs x = node_over (leading p.token xs.levels) (apply_raw p o (joined xs x).raws) (joined xs x).levels

-- an operator behind its operand
unfoldable pub posted : Spot → Infix → Subtree → Subtree
posted p o x = node_over (leading p.token x.levels) (apply_raw p o (joined no_subtrees x).raws) (joined no_subtrees x).levels

abbrev pub list_raw : Spot → Option (List Raw) → Option Raw
list_raw p None = None
list_raw p (Some xs) = Some (raw.List p.place xs)

unfoldable pub listing : Spot → Subtrees → Subtree
listing p xs = node_over p.token (list_raw p xs.raws) xs.levels

abbrev pub some_raws : Option (List Raw) → Option (Option (List Raw))
some_raws None = None
some_raws (Some xs) = Some (Some xs)

abbrev pub raws_given : Option Subtrees → Option (Option (List Raw))
raws_given None = Some None
raws_given (Some xs) = some_raws xs.raws

abbrev pub levels_given : Option Subtrees → List ℕ
levels_given None = []
levels_given (Some xs) = xs.levels

abbrev pub item_raw : Spot → List ℕ → Option (Option (List Raw)) → Option (Option (List Raw)) → Option Raw
item_raw p w (Some args) (Some inner) = Some (raw.Item p.place w args inner)
item_raw p w _ _ = None

unfoldable pub item : Spot → List ℕ → Option Subtrees → Option Subtrees → Subtree
item p w args inner = node_over p.token (item_raw p w (raws_given args) (raws_given inner))
    (merged (levels_given args) (levels_given inner))

-- ---- what grows of a tree

abbrev mutual
  pub grown : Tree → Subtree
  grown (a_number p n) = leaf p.token (raw.Number p.place n)
  grown (a_text p t) = leaf p.token (raw.Text p.place t)
  grown (an_item p w args inner) = item p w (grown_in args) (grown_in inner)
  grown (a_prefix p o e) = applied p o no_subtrees (grown e)
  grown (a_postfix p o e) = posted p o (grown e)
  grown (a_pair p o a e) = applied p o (joined no_subtrees (grown a)) (grown e)
  grown (a_list p xs) = listing p (grown_all xs)
  grown (a_comma p) = leaf p.token raw.Comma
  grown (a_semicolon p) = leaf p.token raw.Semicolon
  grown (an_empty p) = leaf p.token raw.Empty

  pub grown_all : Trees → Subtrees
  grown_all none = no_subtrees
  grown_all (more xs x) = joined (grown_all xs) (grown x)

  pub grown_in : TreeGroup → Option Subtrees
  grown_in absent = None
  grown_in (given xs) = Some (grown_all xs)
