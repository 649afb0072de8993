-- The Buffers and Packages whose lists are longer than their sizes (ACPI Specification 6.4, 19.6.10 and 19.6.102).
use Rattle.std.specs.Prelude.{ℕ, suc, nat_lt, Bool, true, false, List, [], ◌∷◌, ◌++◌, length, unwrap_or, Result, Ok, Option, Some}
use Rattle.std.specs.Prelude.{None}
use Rattle.iasl_messages.specs.declared.message.Message.{Message}
use Rattle.iasl_messages.specs.declared.place.Place.{Place}
use Rattle.acpi_values.specs.declared.width.Width.{Width}
use Rattle.asl_tree.specs.declared.constant.NoConstant.{NoConstant}
use Rattle.asl_tree.specs.declared.term.Op.{Op}
use Rattle.asl_tree.specs.declared.term.Special.TheVariants as Special
use Rattle.term_plans.specs.Plans.{Plan, a_text, a_fill, a_call, a_form, Plans, no_plans, plan, plan_at, how_many, constant_of}
use Rattle.term_plans.specs.Places.{fault_at}

-- how many bytes a string or the contents of a macro are; a string has a 00 behind it
abbrev pub bytes_alone : Plan → Option ℕ
bytes_alone (a_text bytes) = Some (suc (length bytes))
bytes_alone (a_fill bytes named) = Some (length bytes)
bytes_alone p = None

-- the bytes that a Buffer lists: those of what stands alone, or one for each
abbrev pub byte_count : Plans → ℕ
byte_count (plan place p no_plans) = unwrap_or (bytes_alone p) 1
byte_count ps = how_many ps

-- how long the list of a Buffer or a Package is
abbrev pub list_length : Op → Plans → Option ℕ
list_length (Op.Special Special.Buffer) body = Some (byte_count body)
list_length (Op.Special Special.Package) body = Some (how_many body)
list_length op body = None

-- a constant size below a length
abbrev pub is_below : Result ℕ NoConstant → Option ℕ → Bool
is_below (Ok size) (Some count) = nat_lt size count
is_below size count = false

abbrev pub told : Bool → Place → List Message
told true place = fault_at 6057 place ∷ []
told false place = []

-- constants are taken at this width
module _ (width : Width) where
  abbrev pub size_errors : Place → Op → Plans → Plans → List Message
  size_errors place op args body = told (is_below (constant_of width (plan_at args 0)) (list_length op body)) place

  abbrev mutual
    -- the errors of a term: its own, then those of its arguments, then those of its body
    pub term_errors : Place → Plan → List Message
    term_errors place (a_call name args) = long_lists args
    term_errors place (a_form op args body) = size_errors place op args body ++ (long_lists args ++ long_lists body)
    term_errors place _ = []

    pub long_lists : Plans → List Message
    long_lists no_plans = []
    long_lists (plan place p ps) = term_errors place p ++ long_lists ps
