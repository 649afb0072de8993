-- Messages and tokens are in files that there are.
use Rattle.std.proofs.Common.{◌≡◌, ℕ, ◌-◌, ◌<◌, Bool, true, false, List, [], ◌∷◌, length, Option, Some, None, Result, Ok, Err, refl, sym, subst, arith}
use Rattle.std.specs.Prelude.{nat_le, ◌++◌, if◌then◌else◌, slice_get, IfOk}
use Rattle.std.specs.declared.alloc.AllocError.{AllocError}
use Rattle.std.specs.List.{All}
use Rattle.std.specs.Option.{option_map_or}
use Rattle.std.proofs.lemmas.List.Elements.{All-push, All-append}
use Rattle.std.proofs.lemmas.Option.{get_or_from_slice_get, slice_get_within}
use Rattle.iasl_messages.specs.declared.place.Place.{Place}
use Rattle.iasl_messages.specs.declared.place.Line.{Line}
use Rattle.iasl_messages.specs.declared.place.Piece.{Piece}
use Rattle.iasl_messages.specs.declared.message.Message.{Message}
use Rattle.asl_lexer.specs.declared.token.Token.{Token}
use Rattle.asl_syntax.specs.declared.raw.Raw.{Raw}
use Rattle.asl_syntax.specs.Place.{first_place, place_behind, place_at}
use Rattle.asl_syntax.specs.Written.{Writtens, item, none, more, written, writtens}
use Rattle.asl_syntax.specs.Within.{IsWithin, AreWithin as PartsWithin}
use Rattle.asl_shape.specs.Forms.{source_errors, alone, block_place}
use Rattle.asl_shape.proofs.Places.{source_errors_within}
use Rattle.literal_checks.proofs.Places.{literals_within}
use Rattle.program_shapes.specs.Sources.{source_in, names_in, uses_in, checked_in, program_in, plans_in, terms_in, statements_in, layouts_in, regions_in, types_in, sizes_in, values_in, locals_in, notes_in, fields_in, width_in}
use Rattle.program_shapes.proofs.Places.{terms_within}
use Rattle.program_shapes.proofs.StatementPlaces.{statement_errors_within}
use Rattle.program_shapes.proofs.ListPlaces.{list_errors_within}
use Rattle.program_shapes.proofs.RegionPlaces.{access_errors_within}
use Rattle.program_shapes.proofs.TypePlaces.{types_within, sizes_within}
use Rattle.program_shapes.proofs.SwitchPlaces.{repeats_within, locals_within}
use Rattle.program_shapes.proofs.NotePlaces.{source_notes_within}
use Rattle.asl_tables.proofs.CopyPlaces.{copies_within}
use Rattle.program_shapes.proofs.TreePlaces.{plans_within, checked_plans_within, program_within}
use Rattle.descriptor_shapes.proofs.Blocks.{names_told_within, kinds_told_within}
use Rattle.aml_sizes.specs.TableSizes.{most_table_bytes}
use Rattle.block_outcomes.specs.declared.outcome.Class.{Class}
use Rattle.block_outcomes.specs.declared.outcome.Class.TheVariants as class
use Rattle.block_outcomes.specs.declared.outcome.Compiled.{Compiled}
use Rattle.block_outcomes.specs.declared.outcome.Compiled.TheVariants.{Made}
use Rattle.block_outcomes.specs.declared.outcome.Outcome.{Outcome}
use Rattle.block_outcomes.specs.declared.outcome.Outcome.TheVariants.{Done, Faulty}
use Rattle.asl_tables.specs.Syntax.{at_token}
use Rattle.asl_tables.specs.declared.compile.Style.{Style}
use Rattle.asl_tables.specs.Compiled.{own_in, literals_in, noted_in, all_noted, told_in, others_in, copies_in, unlowered_in, lowered_as, AreWithin, too_long, of_table, unless_wrong, outcome_in, outcomes_in, of_items, written_in, cut_in, TellsWithin}
use Rattle.block_checks.specs.Told.{is_of_kinds, with_others}
use Rattle.block_outcomes.specs.Joined.{first_told, unless_refused, unless_noted, class_in, is_class_in, if_class, of_class, later_errors, tables_among, joined}

module _ (files : ℕ) where
  abbrev TokenHome : Token → Type 0
  TokenHome token = token.place.file < files

  -- ---- what the calls of the compiler need

  one_home : (message : Message) → message.place.file < files → AreWithin files (message ∷ [])
  one_home message h = All-push (λ (m : Message). m.place.file < files) [] message (λ i d lt. absurd (omega arith)) h

  none_home : AreWithin files []
  none_home = λ i d lt. absurd (omega arith)

  -- what is wrong with a block is told in the files
  abbrev pub OutcomeHome : Outcome → Type 0
  OutcomeHome (Done signature own pieces) = Unit {0}
  OutcomeHome (Faulty messages) = AreWithin files messages

  of_table_home : (place : Place) (signature own bytes : List ℕ) (pieces : List Piece) → place.file < files → OutcomeHome (of_table place signature own bytes pieces)
  of_table_home place signature own bytes pieces h = by_length (nat_le (length bytes) most_table_bytes)
    where
      by_length : (c : Bool) → OutcomeHome (if c then Done signature own pieces else Faulty (too_long place ∷ []))
      by_length true = tt
      by_length false = one_home (too_long place) h

  wrong_home : (errors : List Message) (it : Outcome) → AreWithin files errors → OutcomeHome it → OutcomeHome (unless_wrong errors it)
  wrong_home [] it h k = k
  wrong_home (m ∷ ms) it h k = h

  first_home : (messages others : List Message) → AreWithin files messages → AreWithin files others → AreWithin files (first_told messages others)
  first_home [] others h k = k
  first_home (m ∷ ms) others h k = h

  statements_home : (errors statements : List Message) → AreWithin files errors → AreWithin files statements → AreWithin files (with_others errors statements)
  statements_home [] statements h k = k
  statements_home (m ∷ ms) statements h k = by (is_of_kinds m.number)
    where
      by : (b : Bool) → AreWithin files (if b then (m ∷ ms) ++ statements else m ∷ ms)
      by true = All-append (λ (m : Message). m.place.file < files) (m ∷ ms) statements h k
      by false = h

  block_home : (ws : Writtens) → PartsWithin files ws → 0 < files → (block_place ws).file < files
  block_home (more (item place word args body) none) h main = h.0.0
  block_home _ h main = main

  -- a block whose parts stand in the files tells nothing outside them
  outcome_home : (style : Style) (lines : List Line) (items : List Raw) → PartsWithin files (writtens items) → 0 < files → OutcomeHome (outcome_in style lines items)
  outcome_home style lines items parts main =
      let written = terms_within files (writtens items) parts in
      let names = first_home (names_in items) (uses_in items) (names_told_within files (source_in items) written) (kinds_told_within files (source_in items) written) in
      let checked = checked_plans_within files (writtens items) parts in
      let plans = plans_within files (writtens items) parts in
      let lists = All-append (λ (m : Message). m.place.file < files) (statements_in items) (layouts_in items) (statement_errors_within files (plans_in items) plans) (list_errors_within files (plans_in items) plans) in
      let accesses = All-append (λ (m : Message). m.place.file < files) (statements_in items ++ layouts_in items) (regions_in items) lists
      (access_errors_within files (width_in items) (program_in items) (checked_in items) (program_within files (writtens items) parts) checked) in
      let types = All-append (λ (m : Message). m.place.file < files) (statements_in items ++ layouts_in items ++ regions_in items) (types_in items) accesses (types_within files (program_in items) (checked_in items) checked) in
      let sizes = All-append (λ (m : Message). m.place.file < files) (statements_in items ++ layouts_in items ++ regions_in items ++ types_in items) (sizes_in items) types (sizes_within files (width_in items) (plans_in items) plans) in
      let others = All-append (λ (m : Message). m.place.file < files) (statements_in items ++ layouts_in items ++ regions_in items ++ types_in items ++ sizes_in items) (values_in items) sizes (repeats_within files (width_in items) (plans_in items) plans) in
      let table = of_table (block_place (writtens items)) (fields_in items).signature (own_in items) (written_in style items) (cut_in style lines items) in
      let place = block_home (writtens items) parts main in
      let unlowered = first_home (locals_in items) (copies_in style items) (locals_within files (terms_in items) (plans_in items) main plans) (copies_within files (block_place (writtens items)) (plans_in items) (lowered_as style (fields_in items) (terms_in items)) place plans) in
      wrong_home (with_others (told_in items) (others_in items)) (unless_wrong (unlowered_in style items) table) (statements_home (told_in items) (others_in items) names others)
      (wrong_home (unlowered_in style items) table unlowered
      (of_table_home (block_place (writtens items)) (fields_in items).signature (own_in items) (written_in style items) (cut_in style lines items) place))

  noted_home : (items : List Raw) → PartsWithin files (writtens items) → AreWithin files (noted_in items)
  noted_home items parts = All-append (λ (m : Message). m.place.file < files) (literals_in items) (notes_in items) (literals_within files (width_in items) items parts) (source_notes_within files (writtens items) parts)

  -- ---- blocks together

  if_home : (b : Bool) (messages : List Message) → AreWithin files messages → AreWithin files (if b then messages else [])
  if_home true messages h = h
  if_home false messages h = none_home

  add_home : (messages : List Message) (c : Class) (others : List Message) → AreWithin files messages → AreWithin files others → AreWithin files (if_class c messages ++ others)
  add_home messages c others h k = All-append (λ (m : Message). m.place.file < files) (if_class c messages) others (if_home (is_class_in c (class_in messages)) messages h) k

  abbrev OutcomesHome : List Outcome → Type 0
  OutcomesHome [] = Unit {0}
  OutcomesHome (o ∷ os) = OutcomeHome o × OutcomesHome os

  class_home : (c : Class) (os : List Outcome) → OutcomesHome os → AreWithin files (of_class c os)
  class_home c [] h = none_home
  class_home c (Done signature own pieces ∷ os) h = class_home c os h.1
  class_home c (Faulty messages ∷ os) h = add_home messages c (of_class c os) h.0 (class_home c os h.1)

  refused_home : (errors : List Message) (it : Compiled) → AreWithin files errors → TellsWithin files it → TellsWithin files (unless_refused errors it)
  refused_home [] it h k = k
  refused_home (m ∷ ms) it h k = h

  later_home : (errors notes : List Message) (it : Compiled) → AreWithin files errors → AreWithin files notes → TellsWithin files it → TellsWithin files (unless_noted errors notes it)
  later_home [] notes it h n k = k
  later_home (m ∷ ms) notes it h n k = All-append (λ (m : Message). m.place.file < files) (m ∷ ms) notes h n

  joined_home : (notes : List Message) (os : List Outcome) → AreWithin files notes → OutcomesHome os → TellsWithin files (joined notes os)
  joined_home notes os n h =
      let sizes = first_home (of_class class.Lowering os) (of_class class.Sizes os) (class_home class.Lowering os h) (class_home class.Sizes os h) in
      refused_home (of_class class.Names os) (unless_noted (later_errors os) notes (Made (tables_among os) notes)) (class_home class.Names os h)
      (later_home (later_errors os) notes (Made (tables_among os) notes) (first_home (of_class class.Kinds os) (first_told (of_class class.Lowering os) (of_class class.Sizes os)) (class_home class.Kinds os h) sizes) n n)

  alone_home : (r : Raw) → IsWithin files (written r) → PartsWithin files (writtens (alone r))
  unfolding writtens
  alone_home r h = (h, tt)

  outcomes_home : (style : Style) (lines : List Line) (raws : List Raw) → PartsWithin files (writtens raws) → 0 < files → OutcomesHome (outcomes_in style lines raws)
  unfolding writtens
  outcomes_home style lines [] parts main = tt
  outcomes_home style lines (r ∷ rs) parts main = (outcome_home style lines (alone r) (alone_home r parts.0) main, outcomes_home style lines rs parts.1 main)

  all_noted_home : (raws : List Raw) → PartsWithin files (writtens raws) → AreWithin files (all_noted raws)
  unfolding writtens
  all_noted_home [] parts = none_home
  all_noted_home (r ∷ rs) parts = All-append (λ (m : Message). m.place.file < files) (noted_in (alone r)) (all_noted rs) (noted_home (alone r) (alone_home r parts.0)) (all_noted_home rs parts.1)

  -- a tree whose parts stand in the files tells nothing outside them
  pub items_home : (style : Style) (lines : List Line) (items : List Raw) → PartsWithin files (writtens items) → 0 < files → TellsWithin files (of_items style lines items)
  items_home style lines items parts main =
      refused_home (source_errors items) (joined (all_noted items) (outcomes_in style lines items)) (source_errors_within files main items parts)
      (joined_home (all_noted items) (outcomes_in style lines items) (all_noted_home items parts) (outcomes_home style lines items parts main))

  -- ---- tokens that are no source

  token_home : (tokens : List Token) (number : ℕ) (token : Token) → All TokenHome tokens → slice_get tokens number ≡ Some token → TokenHome token
  token_home tokens number token h e = subst TokenHome (get_or_from_slice_get tokens number token token e) (h number token (slice_get_within tokens number token e))

  behind_home : (tokens : List Token) → All TokenHome tokens → 0 < files → (option_map_or place_behind (slice_get tokens (length tokens - 1)) first_place).file < files
  behind_home tokens h main = by_last (slice_get tokens (length tokens - 1)) refl
    where
      by_last : (o : Option Token) → slice_get tokens (length tokens - 1) ≡ o → (option_map_or place_behind o first_place).file < files
      by_last None e = main
      by_last (Some token) e = token_home tokens (length tokens - 1) token h e

  -- the place of a token, or behind the last one
  place_home : (tokens : List Token) (number : ℕ) → All TokenHome tokens → 0 < files → (place_at tokens number).file < files
  place_home tokens number h main = by_token (slice_get tokens number) refl (behind_home tokens h main)
    where
      by_token : (o : Option Token) → slice_get tokens number ≡ o → (option_map_or place_behind (slice_get tokens (length tokens - 1)) first_place).file < files
          → (option_map_or (λ token. token.place) o (option_map_or place_behind (slice_get tokens (length tokens - 1)) first_place)).file < files
      by_token None e behind = behind
      by_token (Some token) e behind = token_home tokens number token h e

  pub at_token_home : (number : ℕ) (tokens : List Token) (token : ℕ) → All (λ t. t.place.file < files) tokens → 0 < files → AreWithin files (at_token number tokens token ∷ [])
  at_token_home number tokens token h main = one_home (at_token number tokens token) (place_home tokens token h main)

  -- ---- what a call gives

  pub same_home : (r : Result Compiled AllocError) (it : Compiled) → IfOk r (λ given. given ≡ it) → TellsWithin files it → IfOk r (TellsWithin files)
  same_home (Ok given) it e h = subst (TellsWithin files) (sym e) h
  same_home (Err error) it e h = tt
