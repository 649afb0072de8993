-- A source that is compiled has a table.
use Rattle.std.proofs.Common.{◌≡◌, ℕ, ◌<◌, length, Bool, true, false, cond, List, [], ◌∷◌, ◌++◌, Result, Ok, Err, refl, sym, ap, ◌∙◌, subst, arith}
use Rattle.std.specs.Prelude.{⊤, if◌then◌else◌, nat_le, IfOk}
use Rattle.std.specs.declared.alloc.AllocError.{AllocError}
use Rattle.iasl_messages.specs.declared.message.Message.{Message}
use Rattle.iasl_messages.specs.declared.place.Line.{Line}
use Rattle.iasl_messages.specs.declared.place.Piece.{Piece}
use Rattle.iasl_messages.specs.declared.place.Place.{Place}
use Rattle.asl_lexer.specs.declared.token.Token.{Token}
use Rattle.asl_lexer.specs.declared.mode.Fault.{Fault}
use Rattle.asl_lexer.specs.Marks.{tokens_of}
use Rattle.asl_parser.specs.Parse.{ParseOutcome, outcome, read, stopped, sunk, tall}
use Rattle.asl_shape.specs.Forms.{source_errors, alone, block_place}
use Rattle.asl_syntax.specs.declared.raw.Raw.{Raw}
use Rattle.asl_syntax.specs.Written.{writtens}
use Rattle.program_shapes.specs.Sources.{plans_in, terms_in, fields_in, described_in}
use Rattle.source_pieces.specs.Places.{core_places}
use Rattle.wrapped_externals.specs.Wraps.{wrapped_where}
use Rattle.wrapped_externals.specs.Starts.{placed_where}
use Rattle.aml_sizes.specs.TableSizes.{most_table_bytes}
use Rattle.block_checks.specs.Told.{with_others}
use Rattle.block_outcomes.specs.declared.outcome.Class.{Class}
use Rattle.block_outcomes.specs.declared.outcome.Class.TheVariants as class
use Rattle.block_outcomes.specs.declared.outcome.Compiled.{Compiled}
use Rattle.block_outcomes.specs.declared.outcome.Compiled.TheVariants.{Made, Refused}
use Rattle.block_outcomes.specs.declared.outcome.Outcome.{Outcome}
use Rattle.block_outcomes.specs.declared.outcome.Outcome.TheVariants.{Done, Faulty}
use Rattle.block_outcomes.specs.declared.outcome.Table.{Table}
use Rattle.block_outcomes.specs.Joined.{first_told, class_of, is_class, of_class, unless_refused, unless_noted, later_errors, tables_among, joined}
use Rattle.data_tables.specs.Compiling.{Answer}
use Rattle.asl_tables.specs.declared.compile.Style.{Style}
use Rattle.asl_tables.specs.Compiled.{too_long, of_table, table_with, its_pieces, lowered_as, of_right, own_in, told_in, others_in, unlowered_in, unless_wrong, outcome_in, outcomes_in, all_noted, of_items, of_outcome, of_tokens, of_lines}
use Rattle.table_outputs.specs.declared.decision.TableOutputs.{TableOutputs}
use Rattle.table_outputs.specs.Decision.{all_files}
use Rattle.iasl_options.specs.Asking.{Asked}
use Rattle.iasl_tool.specs.Due.{files_of_tables}
use Rattle.iasl_tool.specs.Sources.{is_data_source, data_answer, of_data, of_source}
use Rattle.iasl_tool.specs.Outputs.{HasTable}

-- an outcome of a block is a table, or errors of which there is one
abbrev IsOne : Outcome → Type 0
IsOne (Done signature own pieces) = ⊤
IsOne (Faulty []) = ⊥
IsOne (Faulty (m ∷ ms)) = ⊤

one_unless : (ms : List Message) (o : Outcome) → IsOne o → IsOne (unless_wrong ms o)
one_unless [] o h = h
one_unless (m ∷ ms) o h = tt

one_choice : (b : Bool) (signature own : List ℕ) (pieces : List Piece) (m : Message) → IsOne (if b then Done signature own pieces else Faulty (m ∷ []))
one_choice true signature own pieces m = tt
one_choice false signature own pieces m = tt

table_one : (place : Place) (signature own bytes : List ℕ) (pieces : List Piece) → IsOne (of_table place signature own bytes pieces)
table_one place signature own bytes pieces = one_choice (nat_le (length bytes) most_table_bytes) signature own pieces (too_long place)

is_one : (style : Style) (lines : List Line) (items : List Raw) → IsOne (outcome_in style lines items)
is_one style lines items =
    let place = block_place (writtens items) in
    let inner = core_places (plans_in items) in
    let lowered = lowered_as style (fields_in items) (terms_in items) in
    let core = wrapped_where style.wrap lowered in
    let bytes = table_with style (fields_in items) (described_in items) core in
    let pieces = its_pieces style lines (place ∷ placed_where style.wrap lowered inner) (fields_in items) (described_in items) core in
    let right = of_right style lines place inner (own_in items) (fields_in items) (described_in items) (terms_in items) in
    one_unless (with_others (told_in items) (others_in items)) (unless_wrong (unlowered_in style items) right)
    (one_unless (unlowered_in style items) right (table_one place (fields_in items).signature (own_in items) bytes pieces))

-- ---- what blocks come to together

refused_has : (ms : List Message) (it : Compiled) → HasTable it → HasTable (unless_refused ms it)
refused_has [] it h = h
refused_has (m ∷ ms) it h = tt

noted_has : (ms notes : List Message) (it : Compiled) → HasTable it → HasTable (unless_noted ms notes it)
noted_has [] notes it h = h
noted_has (m ∷ ms) notes it h = tt

-- errors that are there are told
refused_some : (all : List Message) (m : Message) (ms : List Message) (it : Compiled) → all ≡ m ∷ ms → HasTable (unless_refused all it)
refused_some all m ms it e = subst (λ ms. HasTable (unless_refused ms it)) (sym e) tt

noted_some : (all : List Message) (m : Message) (ms notes : List Message) (it : Compiled) → all ≡ m ∷ ms → HasTable (unless_noted all notes it)
noted_some all m ms notes it e = subst (λ ms. HasTable (unless_noted ms notes it)) (sym e) tt

-- some are there where there are some among the others
later_some : (ms others : List Message) (n : Message) (ns : List Message) (notes : List Message) (it : Compiled) → others ≡ n ∷ ns → HasTable (unless_noted (first_told ms others) notes it)
later_some [] others n ns notes it e = noted_some others n ns notes it e
later_some (m ∷ ms) others n ns notes it e = tt

last_some : (ms others : List Message) (n : Message) (ns : List Message) (notes more : List Message) (it : Compiled) → others ≡ n ∷ ns → HasTable (unless_noted (first_told more (first_told ms others)) notes it)
last_some ms others n ns notes (x ∷ xs) it e = tt
last_some ms others n ns notes [] it e = later_some ms others n ns notes it e

first_some : (ms others : List Message) (m : Message) (ns notes : List Message) (it : Compiled) → ms ≡ m ∷ ns → HasTable (unless_noted (first_told ms others) notes it)
first_some ms others m ns notes it e = subst (λ ms. HasTable (unless_noted (first_told ms others) notes it)) (sym e) tt

-- the errors of a block are of the class of the first
same_class : (c : Class) (messages others : List Message) → (if is_class c c then messages else []) ++ others ≡ messages ++ others
same_class class.Names messages others = refl
same_class class.Kinds messages others = refl
same_class class.Lowering messages others = refl
same_class class.Sizes messages others = refl

class_some : (c : Class) (m : Message) (ms : List Message) (os : List Outcome) → class_of m.number ≡ c → of_class c (Faulty (m ∷ ms) ∷ os) ≡ m ∷ (ms ++ of_class c os)
class_some c m ms os e = ap (λ d. (if is_class c d then m ∷ ms else []) ++ of_class c os) e ∙ same_class c (m ∷ ms) (of_class c os)

wrong_has : (notes : List Message) (m : Message) (ms : List Message) (os : List Outcome) (c : Class) → class_of m.number ≡ c → HasTable (joined notes (Faulty (m ∷ ms) ∷ os))
wrong_has notes m ms os class.Names e = refused_some _ m _ _ (class_some class.Names m ms os e)
wrong_has notes m ms os class.Kinds e = refused_has _ _ (first_some _ _ m _ notes _ (class_some class.Kinds m ms os e))
wrong_has notes m ms os class.Lowering e = refused_has _ _ (by_first (of_class class.Kinds (Faulty (m ∷ ms) ∷ os)))
  where
    all : List Outcome
    all = Faulty (m ∷ ms) ∷ os

    by_first : (first : List Message) → HasTable (unless_noted (first_told first (first_told (of_class class.Lowering (Faulty (m ∷ ms) ∷ os)) (of_class class.Sizes (Faulty (m ∷ ms) ∷ os)))) notes (Made (tables_among (Faulty (m ∷ ms) ∷ os)) notes))
    by_first [] = first_some _ _ m _ notes _ (class_some class.Lowering m ms os e)
    by_first (x ∷ xs) = tt
wrong_has notes m ms os class.Sizes e =
    let all : List Outcome = Faulty (m ∷ ms) ∷ os in
    let made = Made (tables_among all) notes in
    refused_has (of_class class.Names all) (unless_noted (later_errors all) notes made)
    (last_some (of_class class.Lowering all) (of_class class.Sizes all) m (ms ++ of_class class.Sizes os) notes (of_class class.Kinds all) made (class_some class.Sizes m ms os e))

joined_has : (notes : List Message) (o : Outcome) (os : List Outcome) → IsOne o → HasTable (joined notes (o ∷ os))
joined_has notes (Done signature own pieces) os h =
    let all : List Outcome = Done signature own pieces ∷ os in
    let some : 0 < length (tables_among all) = omega arith in
    refused_has (of_class class.Names all) (unless_noted (later_errors all) notes (Made (tables_among all) notes))
    (noted_has (later_errors all) notes (Made (tables_among all) notes) some)
joined_has notes (Faulty []) os h = absurd h
joined_has notes (Faulty (m ∷ ms)) os h = wrong_has notes m ms os (class_of m.number) refl

-- ---- what lines come to

items_have : (style : Style) (lines : List Line) (items : List Raw) → HasTable (of_items style lines items)
items_have style lines [] = tt
items_have style lines (item ∷ items) = refused_has (source_errors (item ∷ items)) _
    (joined_has (all_noted (item ∷ items)) (outcome_in style lines (alone item)) (outcomes_in style lines items) (is_one style lines (alone item)))

outcome_has : (style : Style) (lines : List Line) (tokens : List Token) (o : ParseOutcome) → HasTable (of_outcome style lines tokens o)
outcome_has style lines tokens (read items) = items_have style lines items
outcome_has style lines tokens (stopped rest) = tt
outcome_has style lines tokens (sunk rest) = tt
outcome_has style lines tokens (tall number) = tt

tokens_have : (style : Style) (lines : List Line) (r : Result (List Token) Fault) → HasTable (of_tokens style lines r)
tokens_have style lines (Err fault) = tt
tokens_have style lines (Ok tokens) = outcome_has style lines tokens (outcome tokens)

data_has : (answer : Answer) → HasTable (of_data answer)
data_has (Ok table) = omega arith
data_has (Err faults) = tt

-- where lines of ASL are compiled
pub lines_have : (style : Style) (lines : List Line) (r : Result Compiled AllocError) → IfOk r (λ it. it ≡ of_lines style lines) → IfOk r HasTable
lines_have style lines (Ok it) e = subst HasTable (sym e) (tokens_have style lines (tokens_of lines))
lines_have style lines (Err stop) e = tt

pub source_has : (generic : Bool) (style : Style) (lines : List Line) → HasTable (of_source generic style lines)
source_has generic style lines = by_kind (is_data_source generic lines)
  where
    by_kind : (b : Bool) → HasTable (cond b (of_data (data_answer generic lines)) (of_lines style lines))
    by_kind true = data_has (data_answer generic lines)
    by_kind false = tokens_have style lines (tokens_of lines)

-- as many tables are put: some
pub some_put : (asked : Asked) (file : List ℕ) (tables : List Table) (put : List TableOutputs) → 0 < length tables → all_files put ≡ files_of_tables asked file tables → 0 < length put
some_put asked file [] put lt e = omega (arith, lt)
some_put asked file (table ∷ tables) [] lt e = absurd cc
some_put asked file (table ∷ tables) (one ∷ put) lt e = omega arith
