-- Programs of which too many copies are made.
use Rattle.std.specs.Prelude.{ℕ, ◌≡◌, ◌+◌, ◌-◌, ◌^◌, min, nat_lt, Bool, true, false, if◌then◌else◌, List, [], ◌∷◌, Option, Some, None}
use Rattle.iasl_messages.specs.declared.place.Place.{Place}
use Rattle.iasl_messages.specs.declared.message.Message.{Message}
use Rattle.asl_tree.specs.declared.term.Op.{Op}
use Rattle.asl_tree.specs.declared.term.Control.TheVariants as Control
use Rattle.asl_tree.specs.Tree.{Trees}
use Rattle.term_plans.specs.Plans.{Plan, a_call, a_form, Plans, no_plans, plan}
use Rattle.asl_numbers.specs.Numbers.{nodes}
use Rattle.core_nodes.specs.Nodes.{nodes_in}
use Rattle.copy_checks.specs.declared.copies.ProgramSize.{ProgramSize}

abbrev pub is_for : Op → Bool
is_for (Op.Control Control.For) = true
is_for op = false

-- the first of two places, if there is one
abbrev pub earlier : Option Place → Option Place → Option Place
earlier None other = other
earlier (Some place) other = Some place

abbrev mutual
  -- the place of the first For: a term itself, or the first in its arguments and then in its braces
  pub for_at : Place → Plan → Option Place
  for_at place (a_call name args) = first_for args
  for_at place (a_form op args body) = if is_for op then Some place else earlier (first_for args) (first_for body)
  for_at place p = None

  pub first_for : Plans → Option Place
  first_for no_plans = None
  first_for (plan place p ps) = earlier (for_at place p) (first_for ps)

abbrev pub at_for : Option Place → Place → Place
at_for None block = block
at_for (Some place) block = place

abbrev pub many_copies : Place → Message
many_copies place = record { number = 6062; place = place; name = [] }

-- what is told where a program of so many nodes has a core of so many: that both together do not have numbers of 32 bits
abbrev pub copies_told : Place → (program core : ℕ) → List Message
copies_told place program core = if nat_lt (program + core) 4294967296 then [] else many_copies place ∷ []

-- the nodes of a program and those of its core are together to have numbers of 32 bits: 6062 at the first For, or at the block where
-- there is none
abbrev pub too_many_copies : (block : Place) → Plans → (core : Trees) → List Message
too_many_copies block ps core = copies_told (at_for (first_for ps) block) (nodes ps) (nodes_in core)

-- how large a program is, and where it is told of
pub record IsSizeOf (block : Place) (ps : Plans) (size : ProgramSize) : Type 0 where
  pub place : size.place ≡ at_for (first_for ps) block
  pub nodes : size.nodes ≡ min (nodes ps) (2 ^ 64 - 1)
