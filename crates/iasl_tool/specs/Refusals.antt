-- What is refused, in relations: why status 1 comes, and what is told then.
use Rattle.std.specs.Prelude.{◌≡◌, ℕ, nat_le, true, false, if◌then◌else◌, List, [], ◌∷◌, ◌++◌, length, Some, Ok, Err}
use Rattle.std.specs.List.{flat_map}
use Rattle.iasl_ports.specs.Gained.{Named}
use Rattle.iasl_runs.specs.Ends.{World}
use Rattle.iasl_messages.specs.declared.place.Line.{Line}
use Rattle.iasl_messages.specs.declared.message.Message.{Message}
use Rattle.asl_preprocess.specs.Preprocess.{Given, Stopped, preprocessed}
use Rattle.asl_lexer.specs.declared.token.Token.{Token}
use Rattle.asl_lexer.specs.declared.mode.Fault.{Fault}
use Rattle.asl_lexer.specs.Marks.{message_of}
use Rattle.asl_lexer.specs.Cut.{IsCut, HasFault}
use Rattle.asl_syntax.specs.declared.raw.Raw.{Raw}
use Rattle.asl_parser.specs.Depth.{IsShallow, IsLow, IsTooDeep}
use Rattle.asl_parser.specs.Front.{IsLongestFront}
use Rattle.asl_parser.specs.Grammar.{Spells}
use Rattle.asl_syntax.specs.Grow.{limit}
use Rattle.asl_syntax.specs.Marks.{marks}
use Rattle.asl_syntax.specs.Written.{writtens}
use Rattle.asl_shape.specs.Forms.{source_errors, alone, block_place}
use Rattle.block_outcomes.specs.declared.outcome.Class.{Class}
use Rattle.block_outcomes.specs.declared.outcome.Class.TheVariants as class
use Rattle.block_outcomes.specs.Joined.{first_told, if_class}
use Rattle.aml_sizes.specs.TableSizes.{most_table_bytes}
use Rattle.data_tables.specs.declared.compiled.Compiled.{Compiled as DataTable}
use Rattle.iasl_options.specs.Asking.{Asked}
use Rattle.iasl_options.specs.CommandLine.{IsCommandLine}
use Rattle.program_shapes.specs.Sources.{IsRightSource}
use Rattle.asl_tables.specs.declared.compile.Style.{Style}
use Rattle.asl_tables.specs.Syntax.{not_source, too_deep}
use Rattle.asl_tables.specs.Compiled.{all_noted, written_in, told_in, others_in, unlowered_in, too_long, EachWithin}
use Rattle.block_checks.specs.Told.{with_others}
use Rattle.iasl_tool.specs.Sources.{is_data_source, data_answer}
use Rattle.iasl_tool.specs.Due.{style_of, has_warning, refusal}
use Rattle.iasl_tool.specs.Outside.{Tells}
use Rattle.iasl_tool.specs.Headline.{Request, NamesLines, is_generic}

-- its table, if that is too long
abbrev pub length_wrong : Style → Raw → List Message
length_wrong style item = if nat_le (length (written_in style (alone item))) most_table_bytes then [] else
    too_long (block_place (writtens (alone item))) ∷ []

-- All that is wrong with a block that is read alone, of the first class of errors that has some in it: its names, or
-- behind what is wrong with the kinds of its objects its statements, fields, accesses, arguments, lists and Cases;
-- what of it cannot be lowered, Switches for which too few Locals are free and too many copies; or that its table is
-- too long.
abbrev pub errors_alone : Style → Raw → List Message
errors_alone style item = first_told (with_others (told_in (alone item)) (others_in (alone item)))
    (first_told (unlowered_in style (alone item)) (length_wrong style item))

-- what is so wrong with the blocks in which it is of this class, in their order
abbrev pub class_errors : Class → Style → List Raw → List Message
class_errors c style items = flat_map (λ item. if_class c (errors_alone style item)) items

-- All that is told of a source that tokens spell, by the first class of errors that has some in any of its blocks, with
-- those of all of them: their form, and the first item that is no block; their names; kinds, statements and fields;
-- what cannot be lowered; or tables that are too long. Behind errors of a later class than that of names the notes on
-- all blocks stand.
pub data AreItsErrors (style : Style) (items : List Raw) : List Message → Type 0 where
  of_form : (m : Message) (ms : List Message) → source_errors items ≡ m ∷ ms → AreItsErrors style items (m ∷ ms)
  of_names : (m : Message) (ms : List Message) → source_errors items ≡ [] → class_errors class.Names style items ≡ m ∷ ms →
      AreItsErrors style items (m ∷ ms)
  of_kinds : (m : Message) (ms : List Message) → source_errors items ≡ [] → class_errors class.Names style items ≡ [] →
      class_errors class.Kinds style items ≡ m ∷ ms → AreItsErrors style items ((m ∷ ms) ++ all_noted items)
  of_lowering : (m : Message) (ms : List Message) → source_errors items ≡ [] → class_errors class.Names style items ≡ [] →
      class_errors class.Kinds style items ≡ [] → class_errors class.Lowering style items ≡ m ∷ ms
      → AreItsErrors style items ((m ∷ ms) ++ all_noted items)
  of_length : (m : Message) (ms : List Message) → source_errors items ≡ [] → class_errors class.Names style items ≡ [] →
      class_errors class.Kinds style items ≡ [] → class_errors class.Lowering style items ≡ []
      → class_errors class.Sizes style items ≡ m ∷ ms → AreItsErrors style items ((m ∷ ms) ++ all_noted items)

-- these lines are cut into these tokens, which spell this source, nowhere too deep
pub record IsSpelled (lines : List Line) (tokens : List Token) (items : List Raw) : Type 0 where
  pub tokens_are : IsCut lines tokens
  pub spelled : Spells items tokens
  pub shallow : IsShallow limit (marks 0 tokens)
  pub low : IsLow limit (marks 0 tokens)

-- Why lines of ASL are refused, and what is told. They have a first place where no token begins or ends; or they are
-- cut into tokens that are no source, and this token stands behind the longest front of one, or that nest too deep at
-- this one; or they spell a source with errors.
pub data AreRefused (style : Style) (lines : List Line) : List Message → Type 0 where
  no_tokens : (fault : Fault) → HasFault lines fault → AreRefused style lines (message_of fault ∷ [])
  no_source : (tokens : List Token) (k : ℕ) → IsCut lines tokens → IsLongestFront (marks 0 tokens) k → IsShallow limit (marks 0 tokens) →
      AreRefused style lines (not_source tokens k ∷ [])
  nested : (tokens : List Token) (k : ℕ) → IsCut lines tokens → IsTooDeep limit (marks 0 tokens) k →
      AreRefused style lines (too_deep tokens k ∷ [])
  wrong : (tokens : List Token) (items : List Raw) (messages : List Message) → IsSpelled lines tokens items →
      AreItsErrors style items messages → AreRefused style lines messages

-- the words ask that warnings refuse a source, and there is one among these notes
pub record RefusesNotes (asked : Asked) (notes : List Message) : Type 0 where
  pub strict : asked.switches.strict ≡ true
  pub warned : has_warning asked.ignored notes ≡ true

-- What is refused of what the words name, with the files that were fetched and what is told: a source whose
-- preprocessing stops; preprocessed text, the table of a source or a data table of which a note is a warning that
-- refuses it; lines of ASL that are refused; or a data table with faults.
pub data IsRefused (words : List (List ℕ)) (told : List Named) (request : Request) : List (List ℕ) → List Message → Type 0 where
  stopped : (message : Message) (files : List (List ℕ)) → IsCommandLine words request.asked → request.asked.file ≡ Some request.file
      → preprocessed told request.file request.asked.directories request.asked.definitions request.asked.enabled ≡ Stopped message files →
      IsRefused words told request files (message ∷ [])
  text_warned : (files : List (List ℕ)) (lines : List Line) (notes : List Message) → IsCommandLine words request.asked →
      request.asked.file ≡ Some request.file → request.asked.only ≡ true
      → preprocessed told request.file request.asked.directories request.asked.definitions request.asked.enabled ≡ Given files lines notes →
      RefusesNotes request.asked notes → IsRefused words told request files notes
  source_refused : (named : NamesLines words told request) (messages : List Message) →
      is_data_source (is_generic request) named.lines ≡ false → AreRefused (style_of request.asked) named.lines messages
      → IsRefused words told request named.files (named.notes ++ messages)
  source_warned : (named : NamesLines words told request) (tokens : List Token) (items : List Raw) →
      is_data_source (is_generic request) named.lines ≡ false → IsSpelled named.lines tokens items → IsRightSource items
      → EachWithin (style_of request.asked) items → RefusesNotes request.asked (named.notes ++ all_noted items) →
      IsRefused words told request named.files (named.notes ++ all_noted items)
  data_refused : (named : NamesLines words told request) (faults : List Message) → is_data_source (is_generic request) named.lines ≡ true →
      data_answer (is_generic request) named.lines ≡ Err faults
      → IsRefused words told request named.files (named.notes ++ faults)
  data_warned : (named : NamesLines words told request) (table : DataTable) → is_data_source (is_generic request) named.lines ≡ true →
      data_answer (is_generic request) named.lines ≡ Ok table
      → RefusesNotes request.asked (named.notes ++ table.notes) → IsRefused words told request named.files (named.notes ++ table.notes)

-- the text of the console then: the messages in order, in the form that is asked for, and how many there are
abbrev pub refusal_text : Request → List (List ℕ) → List Message → List ℕ
refusal_text request files messages = (refusal request.asked files messages).text

-- the words name what is refused, and the console gained what is told of that
pub record TellsRefusal (words : List (List ℕ)) (told : List Named) (before after : World) : Type 0 where
  pub request : Request
  pub files : List (List ℕ)
  pub messages : List Message
  pub refused : IsRefused words told request files messages
  pub text : Tells before after (refusal_text request files messages)
