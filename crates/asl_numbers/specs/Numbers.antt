-- The trees of a program whose nodes are numbered in preorder: each node, then its arguments, then its body.
use Rattle.std.specs.Prelude.{ℕ, suc, ◌+◌}
use Rattle.acpi_state.specs.Forms.{LocalSlot, ArgSlot}
use Rattle.asl_tree.specs.FieldItems.{UnitItem, SkipItem, OffsetItem, AccessItem}
use Rattle.asl_tree.specs.Literals.{word_number}
use Rattle.asl_tree.specs.Tree.{At, Tree, Integer, String, InSlot, Debug, Omitted, Use, Call, Fill, Item, Trees, no_trees, tree}
use Rattle.asl_tree.specs.View.{form}
use Rattle.term_plans.specs.Plans.{Plan, an_integer, a_text, a_fill, a_word, a_local, an_arg, debug, omitted, a_name, a_unit, a_skip}
use Rattle.term_plans.specs.Plans.{an_offset, an_access, a_call, a_form, Plans, no_plans, plan}

-- how many nodes stand inside a term, and how many some terms have
abbrev mutual
  pub inside : Plan → ℕ
  inside (a_call name args) = nodes args
  inside (a_form op args body) = nodes args + nodes body
  inside _ = 0

  pub nodes : Plans → ℕ
  nodes no_plans = 0
  nodes (plan place p ps) = suc (inside p + nodes ps)

-- a term at its node, and terms; `next` is the number of the first node inside it, or of the first of them
unfoldable mutual
  pub numbered : At → ℕ → Plan → Tree
  numbered at next (an_integer number) = Integer number
  numbered at next (a_text bytes) = String bytes
  numbered at next (a_fill bytes named) = Fill bytes
  numbered at next (a_word word) = Integer (word_number word)
  numbered at next (a_local index) = InSlot (LocalSlot index)
  numbered at next (an_arg index) = InSlot (ArgSlot index)
  numbered at next debug = Debug
  numbered at next omitted = Omitted
  numbered at next (a_name name) = Use at name
  numbered at next (a_unit segment bits) = Item (UnitItem (record { at = at; segment = segment }) bits)
  numbered at next (a_skip bits) = Item (SkipItem bits)
  numbered at next (an_offset bytes) = Item (OffsetItem bytes)
  numbered at next (an_access access attribute count) = Item (AccessItem access attribute count)
  numbered at next (a_call name args) = Call at name (numbered_all next args)
  numbered at next (a_form op args body) = form at op (numbered_all next args) (numbered_all (next + nodes args) body)

  pub numbered_all : ℕ → Plans → Trees
  numbered_all next no_plans = no_trees
  numbered_all next (plan place p ps) = tree (numbered (record { id = next; place = place }) (suc next) p)
      (numbered_all (suc (next + inside p)) ps)
