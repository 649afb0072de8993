-- The literals of a source that 32 bits cannot hold, outside constants that are evaluated with 64 bits in every table.
use Rattle.std.specs.Prelude.{ℕ, Bool, true, false, nat_lt, if◌then◌else◌, List, [], ◌∷◌, ◌++◌, Option}
use Rattle.iasl_messages.specs.declared.place.Place.{Place}
use Rattle.iasl_messages.specs.declared.message.Message.{Message}
use Rattle.acpi_values.specs.declared.width.Width.{Width}
use Rattle.acpi_values.specs.declared.width.Width.TheVariants.{W32, W64}
use Rattle.asl_syntax.specs.declared.raw.Raw.{Raw}
use Rattle.asl_syntax.specs.Written.{Written, number as a_number, item, apply, Writtens, none, more, WrittenGroup, absent, given, written}
use Rattle.asl_syntax.specs.Written.{writtens, written_in}
use Rattle.asl_words.specs.declared.operator.Slot.{Slot}
use Rattle.asl_words.specs.declared.operator.Slot.TheVariants as slot
use Rattle.asl_words.specs.declared.operator.Parameter.{Parameter}
use Rattle.asl_words.specs.declared.operator.Body.{Body}
use Rattle.asl_words.specs.declared.operator.Body.TheVariants as braces
use Rattle.word_meanings.specs.declared.meaning.Meaning.{Meaning}
use Rattle.word_meanings.specs.declared.meaning.Meaning.TheVariants as is
use Rattle.asl_words.specs.Operators.{parameters_of, body_of}
use Rattle.word_meanings.specs.Meanings.{meaning_of}
use Rattle.term_plans.specs.Places.{fault_at}
use Rattle.asl_terms.specs.Terms.{is_given}

-- a literal over 2 ^ 32 - 1 is told where it stands
abbrev pub told_number : Place → ℕ → List Message
told_number place n = if nat_lt 4294967295 n then fault_at 3002 place ∷ [] else []

-- whether what is asked for is a constant that is evaluated with 64 bits
abbrev pub is_wide : Slot → Bool
is_wide (slot.Constant least most) = true
is_wide slot.Space = true
is_wide _ = false

-- whether the first argument is asked for so; what no parameter asks for is not
abbrev pub is_first_wide : List Parameter → Bool
is_first_wide [] = false
is_first_wide (q ∷ qs) = is_wide q.slot

abbrev pub behind_first : List Parameter → List Parameter
behind_first [] = []
behind_first (q ∷ qs) = qs

-- how the arguments of an item are asked for
abbrev pub parameters_in : Meaning → List Parameter
parameters_in (is.Operator op) = parameters_of op
parameters_in _ = []

abbrev pub is_bytes : Body → Bool
is_bytes braces.Bytes = true
is_bytes _ = false

-- whether the braces of an item hold constants of 64 bits alone: bytes, or the descriptors of a template
abbrev pub holds_wide : Meaning → Bool
holds_wide (is.Operator op) = is_bytes (body_of op)
holds_wide is.Template = true
holds_wide _ = false

abbrev pub unless : Bool → List Message → List Message
unless true messages = []
unless false messages = messages

abbrev mutual
  -- what is told of a part
  pub told : Written → List Message
  told (a_number place n) = told_number place n
  told (item place w args body) =
      told_group (parameters_in (meaning_of w (is_given body))) args ++ unless (holds_wide (meaning_of w (is_given body)))
      (told_group [] body)
  told (apply place op args) = told_all [] args
  told _ = []

  -- of parts, which these parameters ask for
  pub told_all : List Parameter → Writtens → List Message
  told_all qs none = []
  told_all qs (more w ws) = unless (is_first_wide qs) (told w) ++ told_all (behind_first qs) ws

  pub told_group : List Parameter → WrittenGroup → List Message
  told_group qs absent = []
  told_group qs (given ws) = told_all qs ws

-- what is told of the braces of a block
abbrev pub told_braces : Written → List Message
told_braces (item place w args body) = told_group [] body
told_braces _ = []

abbrev pub told_block : Writtens → List Message
told_block none = []
told_block (more w ws) = told_braces w

-- the literals of a source's block that are cut, where integers have 32 bits
abbrev pub cut_literals : Width → Writtens → List Message
cut_literals W32 ws = told_block ws
cut_literals W64 ws = []

-- ---- the same of the tree of the syntax itself

unfoldable pub told_at : Raw → List Message
told_at raw = told (written raw)

unfoldable pub told_in_at : List Parameter → List Raw → List Message
told_in_at qs raws = told_all qs (writtens raws)

unfoldable pub told_item_at : Meaning → Option (List Raw) → Option (List Raw) → List Message
told_item_at meaning args body = told_group (parameters_in meaning) (written_in args) ++ unless (holds_wide meaning)
    (told_group [] (written_in body))

unfoldable pub cut_literals_at : Width → List Raw → List Message
cut_literals_at width raws = cut_literals width (writtens raws)

unfoldable pub told_braces_at : Raw → List Message
told_braces_at raw = told_braces (written raw)
