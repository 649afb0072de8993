-- The notes on names stand where the declared names of a tree stand.
use Rattle.std.proofs.Common.{ℕ, ◌<◌, Bool, true, false, List, [], ◌∷◌, ◌++◌}
use Rattle.std.specs.Prelude.{not, ◌&&◌}
use Rattle.std.specs.List.{All}
use Rattle.acpi_values.specs.Paths.{AbsolutePath}
use Rattle.iasl_messages.specs.declared.place.Place.{Place}
use Rattle.iasl_messages.specs.declared.message.Message.{Message}
use Rattle.asl_tree.specs.Names.{declared_path}
use Rattle.asl_tree.specs.Tree.{Trees}
use Rattle.asl_meaning.specs.Declarations.{nothing_declared}
use Rattle.asl_syntax.specs.Written.{Writtens}
use Rattle.asl_syntax.specs.Within as source
use Rattle.term_plans.specs.Places.{AreTold}
use Rattle.asl_shape.specs.Forms.{terms_of}
use Rattle.asl_numbers.specs.Numbers.{numbered_all}
use Rattle.descriptor_fields.specs.Declaring.{declaring}
use Rattle.descriptor_checks.specs.Resolved.{checked_terms, names_of, mentions_of}
use Rattle.descriptor_checks.specs.Told.{owners_of}
use Rattle.acpi_names.specs.Mentions.{Mention, Declares, block_mentions}
use Rattle.named_sessions.specs.Places.{AreWithin}
use Rattle.descriptor_shapes.proofs.Blocks.{IsMentionedIn, AreMentionedIn, block_in}
use Rattle.name_notes.specs.Notes.{told_if, reserved_arguments, method_arguments, is_other, method_of, is_among, is_used_in, mention_notes, all_notes, mentioned_notes}
use Rattle.program_shapes.proofs.ListPlaces.{as_all}
use Rattle.program_shapes.proofs.TreePlaces.{program_within}

module _ (files : ℕ) where
  -- ---- what is told of mentions

  both_told : (xs ys : List Message) → AreTold files xs → AreTold files ys → AreTold files (xs ++ ys)
  both_told [] ys h k = k
  both_told (x ∷ xs) ys h k = (h.0, both_told xs ys h.1 k)

  if_told : (told : Bool) (number : ℕ) (place : Place) (path : AbsolutePath) → place.file < files → AreTold files (told_if told number place path)
  if_told true number place path h = (h, tt)
  if_told false number place path h = tt

  module _ (is_method is_used : AbsolutePath → Bool) where
    note_told : (m : Mention) → IsMentionedIn files m → AreTold files (mention_notes is_method is_used m)
    note_told (Declares at name as' scope) h =
        let path : AbsolutePath = declared_path name scope in
        both_told (told_if (is_other (reserved_arguments path) (method_arguments as')) 3001 at.place path) (told_if (is_method scope && not (is_used path)) 3003 at.place path)
        (if_told (is_other (reserved_arguments path) (method_arguments as')) 3001 at.place path h) (if_told (is_method scope && not (is_used path)) 3003 at.place path h)
    note_told m h = tt

    notes_told : (ms : List Mention) → AreMentionedIn files ms → AreTold files (all_notes is_method is_used ms)
    notes_told [] h = tt
    notes_told (m ∷ ms) h = both_told (mention_notes is_method is_used m) (all_notes is_method is_used ms) (note_told m h.0) (notes_told ms h.1)

-- the notes on what is mentioned of trees whose nodes stand in some files stand in these
pub notes_within : (files : ℕ) (has : AbsolutePath → Bool) (also : List AbsolutePath) (ts : Trees) → AreWithin files ts → All (λ (m : Message). m.place.file < files) (mentioned_notes has also (block_mentions ts [] nothing_declared))
notes_within files has also ts h =
    let ms = block_mentions ts [] nothing_declared in
    as_all files (mentioned_notes has also ms) (notes_told files (is_among method_of ms) (is_used_in has also ms) ms (block_in files ts [] nothing_declared h))

-- and so do those of a source, in the files in which its parts stand
pub source_notes_within : (files : ℕ) (ws : Writtens) → source.AreWithin files ws
    → All (λ (m : Message). m.place.file < files) (mentioned_notes (names_of (checked_terms (terms_of ws))) (owners_of (declaring (terms_of ws))) (mentions_of (checked_terms (terms_of ws))))
source_notes_within files ws h =
    let checked = checked_terms (terms_of ws) in
    notes_within files (names_of checked) (owners_of (declaring (terms_of ws))) (numbered_all 0 checked) (program_within files ws h)
