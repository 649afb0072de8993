-- A program's tree as plain data: each term with its place. The numbers of the nodes stand aside.
use Rattle.std.specs.Prelude.{ℕ, zero, suc, Bool, true, false, List, [], ◌∷◌, Result, Ok, Err, Option, Some, None}
use Rattle.iasl_messages.specs.declared.place.Place.{Place}
use Rattle.acpi_values.specs.Integers.{wrapped}
use Rattle.acpi_values.specs.Paths.{NameSeg}
use Rattle.acpi_values.specs.declared.width.Width.{Width}
use Rattle.asl_tree.specs.declared.constant.NoConstant.{NoConstant}
use Rattle.asl_tree.specs.declared.path.Path.{Path}
use Rattle.asl_tree.specs.declared.term.Op.{Op}
use Rattle.asl_tree.specs.declared.term.Word.{Word}
use Rattle.asl_tree.specs.declared.term.NamedDescriptor.{NamedDescriptor}
use Rattle.asl_tree.specs.declared.term.Node.{Node}
use Rattle.asl_tree.specs.declared.term.Term.{Term}
use Rattle.asl_tree.specs.declared.term.Term as D
use Rattle.asl_tree.specs.Constants.{Argument, constant_form}

mutual
  pub data Plan : Type 0 where
    an_integer : (number : ℕ) → Plan
    a_text : (bytes : List ℕ) → Plan
    a_fill : (bytes : List ℕ) (named : List NamedDescriptor) → Plan
    a_word : (word : Word) → Plan
    a_local : (index : ℕ) → Plan
    an_arg : (index : ℕ) → Plan
    debug : Plan
    omitted : Plan
    a_name : (name : Path) → Plan
    a_unit : (segment : NameSeg) (bits : ℕ) → Plan
    a_skip : (bits : ℕ) → Plan
    an_offset : (bytes : ℕ) → Plan
    an_access : (access attribute : ℕ) (count : Option ℕ) → Plan
    a_call : (name : Path) (args : Plans) → Plan
    a_form : (op : Op) (args body : Plans) → Plan

  pub data Plans : Type 0 where
    no_plans : Plans
    plan : (place : Place) (first : Plan) (rest : Plans) → Plans

unfoldable mutual
  -- what a term is
  pub plan_of : Term → Plan
  plan_of (D.Integer number) = an_integer number
  plan_of (D.Text text) = a_text text
  plan_of (D.Fill bytes named) = a_fill bytes named
  plan_of (D.Word word) = a_word word
  plan_of (D.Local index) = a_local index
  plan_of (D.Arg index) = an_arg index
  plan_of D.Debug = debug
  plan_of D.Omitted = omitted
  plan_of (D.Name path) = a_name path
  plan_of (D.Unit segment bits) = a_unit segment bits
  plan_of (D.Skip bits) = a_skip bits
  plan_of (D.Offset bytes) = an_offset bytes
  plan_of (D.Access access attribute count) = an_access access attribute count
  plan_of (D.Call' path shape args) = a_call path (row_plans args)
  plan_of (D.Form' op shape args shape' body) = a_form op (row_plans args) (row_plans body)

  pub row_plans : {m : _} → D.Row_of-Node m → Plans
  row_plans D.end_of-Node = no_plans
  row_plans (D.more_of-Node id place term rest) = plan place (plan_of term) (row_plans rest)

unfoldable pub plans_of : List Node → Plans
plans_of [] = no_plans
plans_of (node ∷ nodes) = plan node.place (plan_of node.term) (plans_of nodes)

abbrev pub one_plan : Place → Plan → Plans
one_plan place p = plan place p no_plans

-- plans behind others
abbrev pub join : Plans → Plans → Plans
join no_plans qs = qs
join (plan place p ps) qs = plan place p (join ps qs)

-- the last of a plan and those behind it
abbrev pub last_behind : Plan → Plans → Plan
last_behind p no_plans = p
last_behind p (plan place q qs) = last_behind q qs

-- the last plan; what is left out where there is none
abbrev pub last_plan : Plans → Plan
last_plan ps = last_behind omitted ps

-- a plan and those behind it, without the last of them
abbrev pub before_end : Place → Plan → Plans → Plans
before_end place p no_plans = no_plans
before_end place p (plan at q qs) = plan place p (before_end at q qs)

-- all but the last
abbrev pub before_last : Plans → Plans
before_last no_plans = no_plans
before_last (plan place p ps) = before_end place p ps

-- a plan and those behind it, with this one in place of the last of them
abbrev pub with_end : Plan → Place → Plan → Plans → Plans
with_end last place p no_plans = plan place last no_plans
with_end last place p (plan at q qs) = plan place p (with_end last at q qs)

-- this plan in place of the last
abbrev pub with_last : Plan → Plans → Plans
with_last last no_plans = no_plans
with_last last (plan place p ps) = with_end last place p ps

abbrev pub number_of : Plan → ℕ
number_of (an_integer number) = number
number_of _ = 0

abbrev pub text_of : Plan → List ℕ
text_of (a_text bytes) = bytes
text_of _ = []

abbrev pub fill_of : Plan → List ℕ
fill_of (a_fill bytes named) = bytes
fill_of _ = []

-- ---- the descriptors that have names

abbrev pub named_of : Plan → List NamedDescriptor
named_of (a_fill bytes named) = named
named_of _ = []

-- the plan of this number, counted from 0; what is left out behind the last
abbrev pub plan_at : Plans → ℕ → Plan
plan_at no_plans i = omitted
plan_at (plan place p ps) zero = p
plan_at (plan place p ps) (suc i) = plan_at ps i

-- so many of the first
abbrev pub first_plans : ℕ → Plans → Plans
first_plans zero ps = no_plans
first_plans (suc n) no_plans = no_plans
first_plans (suc n) (plan place p ps) = plan place p (first_plans n ps)

-- the first alone
abbrev pub first_alone : Plans → Plans
first_alone ps = first_plans 1 ps

abbrev pub is_omitted : Plan → Bool
is_omitted omitted = true
is_omitted _ = false

abbrev pub how_many : Plans → ℕ
how_many no_plans = 0
how_many (plan place p ps) = suc (how_many ps)

abbrev pub argument_as : Plan → Result ℕ NoConstant → Argument
argument_as omitted r = None
argument_as _ r = Some r

-- the value of a constant argument at a width
abbrev mutual
  pub constant_of : Width → Plan → Result ℕ NoConstant
  constant_of width (an_integer number) = Ok (wrapped width number)
  constant_of width (a_form op args body) = constant_form op width (arguments_as width args) (how_many body)
  constant_of width _ = Err NoConstant.Form

  pub arguments_as : Width → Plans → List Argument
  arguments_as width no_plans = []
  arguments_as width (plan place p ps) = argument_as p (constant_of width p) ∷ arguments_as width ps
