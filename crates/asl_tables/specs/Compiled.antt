-- What a source of ASL comes to: a table for each of its blocks, or errors.
use Rattle.std.specs.Prelude.{◌≡◌, ℕ, suc, ◌-◌, nat_le, if◌then◌else◌, List, [], ◌∷◌, ◌++◌, length, All, ◌<◌, ◌≤◌, ⊤, Bool}
use Rattle.std.specs.Prelude.{Result, Ok, Err}
use Rattle.iasl_messages.specs.declared.place.Place.{Place}
use Rattle.iasl_messages.specs.declared.place.Line.{Line}
use Rattle.iasl_messages.specs.declared.place.Piece.{Piece}
use Rattle.iasl_messages.specs.declared.message.Message.{Message}
use Rattle.asl_lexer.specs.declared.token.Token.{Token}
use Rattle.asl_lexer.specs.declared.mode.Fault.{Fault}
use Rattle.asl_lexer.specs.Marks.{tokens_of, message_of}
use Rattle.acpi_values.specs.Paths.{AbsolutePath}
use Rattle.acpi_values.specs.Revisions.{width_of}
use Rattle.asl_tree.specs.Tree.{Trees}
use Rattle.asl_tree.specs.declared.program.Block.{Block}
use Rattle.aml_code.specs.Header.{HeaderFields, table_bytes, fields_of}
use Rattle.aml_meaning.specs.Encoded.{encoded_terms}
use Rattle.aml_sizes.specs.TableSizes.{most_table_bytes}
use Rattle.aml_writer.specs.Cuts.{table_parts, pieces_with}
use Rattle.named_sessions.specs.Core.{core_beside}
use Rattle.asl_lower.specs.Nodes.{named_all}
use Rattle.asl_fold.specs.Folds.{folded_where}
use Rattle.wrapped_externals.specs.Wraps.{wrapped_where}
use Rattle.wrapped_externals.specs.Starts.{placed_where}
use Rattle.asl_prints.specs.Forms.{formed_all}
use Rattle.hidden_locals.specs.Switches.{without_switches}
use Rattle.asl_syntax.specs.declared.raw.Raw.{Raw}
use Rattle.asl_parser.specs.Parse.{ParseOutcome, outcome, read, stopped, sunk, tall}
use Rattle.asl_syntax.specs.Written.{writtens}
use Rattle.std.specs.Str.{IsAscii}
use Rattle.term_plans.specs.Plans.{Plans, plan_at, text_of}
use Rattle.asl_shape.specs.Forms.{source_errors, alone, block_place, args_of}
use Rattle.program_shapes.specs.Sources.{source_in, plans_in, terms_in, statements_in, layouts_in, regions_in, types_in, sizes_in}
use Rattle.program_shapes.specs.Sources.{values_in, locals_in, notes_in, fields_in, width_in, described_in, table_in}
use Rattle.source_pieces.specs.Places.{core_places}
use Rattle.source_pieces.specs.Pieces.{pieces_in}
use Rattle.literal_checks.specs.Literals.{cut_literals_at}
use Rattle.switch_checks.specs.Locals.{few_locals}
use Rattle.copy_checks.specs.Copies.{too_many_copies}
use Rattle.asl_tables.specs.declared.compile.Style.{Style}
use Rattle.block_outcomes.specs.declared.outcome.Compiled.{Compiled}
use Rattle.block_outcomes.specs.declared.outcome.Compiled.TheVariants.{Made, Refused}
use Rattle.block_outcomes.specs.declared.outcome.Outcome.{Outcome}
use Rattle.block_outcomes.specs.declared.outcome.Outcome.TheVariants.{Done, Faulty}
use Rattle.block_outcomes.specs.declared.outcome.Table.{Table}
use Rattle.block_outcomes.specs.Joined.{unless_refused, joined, first_told}
use Rattle.block_checks.specs.Told.{told_of_names, with_others}
use Rattle.asl_tables.specs.Syntax.{not_source, too_deep}

-- a table of more than 16 MiB: 6080 at the block
abbrev pub too_long : Place → Message
too_long place = record { number = 6080; place = place; name = [] }

-- a table of these bytes in pieces, if it is not too long, with its signature and the name that its block states for its file
abbrev pub of_table : Place → List ℕ → List ℕ → List ℕ → List Piece → Outcome
of_table place signature own bytes pieces = if nat_le (length bytes) most_table_bytes then Done signature own pieces else
    Faulty (too_long place ∷ [])

-- the table with this header of these terms, at the width that its revision gives, where `also` stands in the way of their names
abbrev pub table_with : Style → HeaderFields → (also : AbsolutePath → Bool) → Trees → List ℕ
table_with style fields also terms =
    table_bytes fields (encoded_terms (width_of fields.revision) style.short (core_beside style.shorten also terms))

-- the table of a block of these terms
abbrev pub its_table : Style → (also : AbsolutePath → Bool) → Trees → Block → List ℕ
its_table style also terms block = table_with style (fields_of block) also terms

-- its pieces, at these places, with the texts of these lines
abbrev pub its_pieces : Style → List Line → List Place → HeaderFields → (also : AbsolutePath → Bool) → Trees → List Piece
its_pieces style lines places fields also terms =
    pieces_with lines places (table_parts fields style.short (core_beside style.shorten also terms))

-- terms with what stands for their Fors and for what prints, loops for their Switches, their symbols named, and their
-- constants folded where that is asked for
abbrev pub lowered_as : Style → HeaderFields → Trees → Trees
lowered_as style fields terms = folded_where style.fold (width_of fields.revision) (named_all (without_switches (formed_all terms)))

-- errors of a block, where there are any
abbrev pub unless_wrong : List Message → Outcome → Outcome
unless_wrong [] it = it
unless_wrong (m ∷ ms) it = Faulty (m ∷ ms)

-- the table of a block of this form in which nothing is wrong, whose terms stand at these places once they are lowered
abbrev pub of_right : Style → List Line → Place → List Place → List ℕ → HeaderFields → (also : AbsolutePath → Bool) → Trees → Outcome
of_right style lines place inner own fields also terms =
    let lowered = lowered_as style fields terms in
    let core = wrapped_where style.wrap lowered in
    of_table place fields.signature own (table_with style fields also core)
    (its_pieces style lines (place ∷ placed_where style.wrap lowered inner) fields also core)

-- too many copies of terms of a block at this place: their nodes, and those of their core before Externals are put into Ifs, are
-- together to have numbers of 32 bits
abbrev pub copies_of : Style → HeaderFields → Place → Trees → Plans → List Message
copies_of style fields block terms ps = too_many_copies block ps (lowered_as style fields terms)

-- what of them cannot be lowered: Switches for which too few Locals are free, or where there are none such, too many copies
abbrev pub unlowered : Style → HeaderFields → Place → Trees → Plans → List Message
unlowered style fields block terms ps = first_told (few_locals terms ps) (copies_of style fields block terms ps)

-- a block of this form that is refused with what is wrong with its names, its statements or the lists of its fields,
-- and where nothing is, with what of it cannot be lowered
abbrev pub of_terms : Style → List Line → Place → List Place → List ℕ → HeaderFields → (names others few : List Message) →
    (also : AbsolutePath → Bool) → Trees → Outcome
of_terms style lines place inner own fields names others few also terms =
    unless_wrong (with_others names others) (unless_wrong few (of_right style lines place inner own fields also terms))

-- the table of a block in which nothing is wrong, which is read alone
abbrev pub written_in : Style → List Raw → List ℕ
written_in style items = table_in style.wrap style.fold style.short style.shorten items

-- its pieces, with the texts of these lines
abbrev pub cut_in : Style → List Line → List Raw → List Piece
cut_in style lines items = pieces_in lines style.wrap style.fold style.short style.shorten items

-- its literals that are cut to 32 bits
abbrev pub literals_in : List Raw → List Message
literals_in items = cut_literals_at (width_in items) items

-- the notes on it: its literals that are cut, and what is noted of its names
abbrev pub noted_in : List Raw → List Message
noted_in items = literals_in items ++ notes_in items

-- the name that it states for its file
abbrev pub own_in : List Raw → List ℕ
own_in items = text_of (plan_at (args_of (writtens items)) 0)

-- what is wrong with its statements, then with the lists of its fields and with their accesses, and then with the kinds
-- of its arguments, the lengths of its lists and the values of its Cases
abbrev pub others_in : List Raw → List Message
others_in items = statements_in items ++ layouts_in items ++ regions_in items ++ types_in items ++ sizes_in items ++ values_in items

-- what is told of its names
abbrev pub told_in : List Raw → List Message
told_in items = told_of_names (source_in items)

-- too many copies in it: its nodes, and those of its core, are together to have numbers of 32 bits
abbrev pub copies_in : Style → List Raw → List Message
copies_in style items = copies_of style (fields_in items) (block_place (writtens items)) (terms_in items) (plans_in items)

-- what of it cannot be lowered
abbrev pub unlowered_in : Style → List Raw → List Message
unlowered_in style items = first_told (locals_in items) (copies_in style items)

-- what a block comes to
abbrev pub outcome_in : Style → List Line → List Raw → Outcome
outcome_in style lines items =
    of_terms style lines (block_place (writtens items)) (core_places (plans_in items)) (own_in items) (fields_in items) (told_in items)
    (others_in items) (unlowered_in style items) (described_in items) (terms_in items)

-- what each of some blocks comes to, in a namespace of its own
abbrev pub outcomes_in : Style → List Line → List Raw → List Outcome
outcomes_in style lines [] = []
outcomes_in style lines (item ∷ items) = outcome_in style lines (alone item) ∷ outcomes_in style lines items

-- the notes on each
abbrev pub all_noted : List Raw → List Message
all_noted [] = []
all_noted (item ∷ items) = noted_in (alone item) ++ all_noted items

-- the tables of blocks in which nothing is wrong
abbrev pub tables_of : Style → List Line → List Raw → List Table
tables_of style lines [] = []
tables_of style lines (item ∷ items) = record {
  signature = (fields_in (alone item)).signature;
  own = own_in (alone item);
  pieces =
      cut_in style lines (alone item);
} ∷ tables_of style lines items

-- not too many copies are made of a block that is read alone, and its table is not too long
pub record IsWithin (style : Style) (items : List Raw) : Type 0 where
  pub copies : copies_in style items ≡ []
  pub table : length (written_in style items) ≤ most_table_bytes

-- so it is with each
abbrev pub EachWithin : Style → List Raw → Type 0
EachWithin style [] = ⊤
EachWithin style (item ∷ items) = IsWithin style (alone item) × EachWithin style items

-- the tree of a source's syntax, that is refused with what is wrong with its form
abbrev pub of_items : Style → List Line → List Raw → Compiled
of_items style lines items = unless_refused (source_errors items) (joined (all_noted items) (outcomes_in style lines items))

-- tokens that are a source, or the place where they stop being one or nest too deep
abbrev pub of_outcome : Style → List Line → List Token → ParseOutcome → Compiled
of_outcome style lines tokens (read items) = of_items style lines items
of_outcome style lines tokens (stopped rest) = Refused (not_source tokens (length tokens - length rest) ∷ [])
of_outcome style lines tokens (sunk rest) = Refused (too_deep tokens (length tokens - suc (length rest)) ∷ [])
of_outcome style lines tokens (tall number) = Refused (too_deep tokens number ∷ [])

-- the first fault of the tokens, or what they come to
abbrev pub of_tokens : Style → List Line → Result (List Token) Fault → Compiled
of_tokens style lines (Err fault) = Refused (message_of fault ∷ [])
of_tokens style lines (Ok tokens) = of_outcome style lines tokens (outcome tokens)

-- what lines of ASL come to
abbrev pub of_lines : Style → List Line → Compiled
of_lines style lines = of_tokens style lines (tokens_of lines)

-- each message stands in one of so many files
abbrev pub AreWithin : ℕ → List Message → Type 0
AreWithin files messages = All (λ m. m.place.file < files) messages

-- each note, or each message of a refusal, is told in one of so many files
abbrev pub TellsWithin : ℕ → Compiled → Type 0
TellsWithin files (Made tables notes) = AreWithin files notes
TellsWithin files (Refused messages) = AreWithin files messages

-- the name that a block states for its file is ASCII
abbrev pub HaveAsciiNames : List Table → Type 0
HaveAsciiNames [] = ⊤
HaveAsciiNames (table ∷ tables) = IsAscii table.own × HaveAsciiNames tables

-- the names that the blocks state for their files are
abbrev pub HasAsciiNames : Compiled → Type 0
HasAsciiNames (Made tables notes) = HaveAsciiNames tables
HasAsciiNames (Refused messages) = ⊤
