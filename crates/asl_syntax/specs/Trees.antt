-- What some tokens spell, as a tree in which each node keeps the number of its own token.
use Rattle.std.specs.Prelude.{ℕ, suc, List, [], ◌∷◌, ◌++◌, Option, Some, None, if◌then◌else◌, nat_lt}
use Rattle.asl_syntax.specs.declared.raw.Infix.{Infix}
use Rattle.asl_syntax.specs.declared.raw.Raw.{Raw}
use Rattle.asl_syntax.specs.declared.raw.Raw.TheVariants as raw
use Rattle.asl_syntax.specs.declared.mark.Spot.{Spot}

mutual
  pub data Tree : Type 0 where
    a_number : (spot : Spot) (value : ℕ) → Tree
    a_text : (spot : Spot) (text : List ℕ) → Tree
    -- a word or path, its arguments and its body
    an_item : (spot : Spot) (word : List ℕ) (args inner : TreeGroup) → Tree
    a_prefix : (spot : Spot) (op : Infix) (operand : Tree) → Tree
    a_postfix : (spot : Spot) (op : Infix) (operand : Tree) → Tree
    -- an operator between two operands, or an index behind what it is of
    a_pair : (spot : Spot) (op : Infix) (first second : Tree) → Tree
    a_list : (spot : Spot) (items : Trees) → Tree
    a_comma : (spot : Spot) → Tree
    a_semicolon : (spot : Spot) → Tree
    -- an argument that is left out, at the token behind it
    an_empty : (spot : Spot) → Tree

  -- trees in order, the last one outermost
  pub data Trees : Type 0 where
    none : Trees
    more : (before : Trees) (last : Tree) → Trees

  pub data TreeGroup : Type 0 where
    absent : TreeGroup
    given : (trees : Trees) → TreeGroup

-- ---- the tree without the numbers

abbrev mutual
  pub raw_of : Tree → Raw
  raw_of (a_number p n) = raw.Number p.place n
  raw_of (a_text p t) = raw.Text p.place t
  raw_of (an_item p w args inner) = raw.Item p.place w (raws_in args) (raws_in inner)
  raw_of (a_prefix p o e) = raw.Apply p.place o (raw_of e ∷ [])
  raw_of (a_postfix p o e) = raw.Apply p.place o (raw_of e ∷ [])
  raw_of (a_pair p o a e) = raw.Apply p.place o (raw_of a ∷ raw_of e ∷ [])
  raw_of (a_list p xs) = raw.List p.place (raws_of xs)
  raw_of (a_comma p) = raw.Comma
  raw_of (a_semicolon p) = raw.Semicolon
  raw_of (an_empty p) = raw.Empty

  pub raws_of : Trees → List Raw
  raws_of none = []
  raws_of (more xs x) = raws_of xs ++ raw_of x ∷ []

  pub raws_in : TreeGroup → Option (List Raw)
  raws_in absent = None
  raws_in (given xs) = Some (raws_of xs)

-- ---- the first token of a node: that of its leftmost leaf

abbrev pub first_token : Tree → ℕ
first_token (a_number p n) = p.token
first_token (a_text p t) = p.token
first_token (an_item p w args inner) = p.token
first_token (a_prefix p o e) = p.token
first_token (a_postfix p o e) = first_token e
first_token (a_pair p o a e) = first_token a
first_token (a_list p xs) = p.token
first_token (a_comma p) = p.token
first_token (a_semicolon p) = p.token
first_token (an_empty p) = p.token

-- ---- the nodes in preorder

-- a node that stands under that many others
pub record Node : Type 0 where
  pub under : ℕ
  pub first : ℕ

abbrev pub node : ℕ → Tree → Node
node n e = record { under = n; first = first_token e }

abbrev mutual
  pub nodes : ℕ → Tree → List Node
  nodes n (a_number p v) = node n (a_number p v) ∷ []
  nodes n (a_text p t) = node n (a_text p t) ∷ []
  nodes n (an_item p w args inner) = node n (an_item p w args inner) ∷ (nodes_in (suc n) args ++ nodes_in (suc n) inner)
  nodes n (a_prefix p o e) = node n (a_prefix p o e) ∷ nodes (suc n) e
  nodes n (a_postfix p o e) = node n (a_postfix p o e) ∷ nodes (suc n) e
  nodes n (a_pair p o a e) = node n (a_pair p o a e) ∷ (nodes (suc n) a ++ nodes (suc n) e)
  nodes n (a_list p xs) = node n (a_list p xs) ∷ nodes_of (suc n) xs
  nodes n (a_comma p) = node n (a_comma p) ∷ []
  nodes n (a_semicolon p) = node n (a_semicolon p) ∷ []
  nodes n (an_empty p) = node n (an_empty p) ∷ []

  pub nodes_of : ℕ → Trees → List Node
  nodes_of n none = []
  nodes_of n (more xs x) = nodes_of n xs ++ nodes n x

  pub nodes_in : ℕ → TreeGroup → List Node
  nodes_in n absent = []
  nodes_in n (given xs) = nodes_of n xs

-- the first token of the first node that stands under more than the limit
abbrev pub first_below : ℕ → List Node → Option ℕ
first_below limit [] = None
first_below limit (x ∷ xs) = if nat_lt limit x.under then Some x.first else first_below limit xs
