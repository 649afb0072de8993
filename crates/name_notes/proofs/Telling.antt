-- The rows of the reserved names, and the notes of mentions, one after another.
use Rattle.std.proofs.Common.{◌≡◌, ℕ, zero, suc, ◌+◌, ◌<◌, ◌≤◌, Bool, false, List, [], ◌∷◌, ◌++◌, length, get_or, drop, Option, Some, None, refl, sym, ap, ◌∙◌, arith}
use Rattle.std.specs.Prelude.{if◌then◌else◌, ◌&&◌, not}
use Rattle.std.specs.Str.{bytes_eq}
use Rattle.std.proofs.lemmas.List.{append_assoc, drop_all, length-map}
use Rattle.acpi_values.specs.Paths.{NameSeg, AbsolutePath}
use Rattle.iasl_messages.specs.declared.message.Message.{Message}
use Rattle.asl_tree.specs.Names.{declared_path}
use Rattle.asl_tree.specs.Tree.{At}
use Rattle.asl_tree.specs.declared.path.Path.{Path}
use Rattle.asl_meaning.specs.Declarations.{Declared}
use Rattle.acpi_names.specs.Mentions.{Declares}
use Rattle.acpi_names.specs.Shown.{shown, all_shown}
use Rattle.acpi_names.specs.declared.mention.Mention.{Mention as CodeMention}
use Rattle.acpi_names.proofs.Mentions.{right_nil}
use Rattle.name_kinds.proofs.Places.{next_dropped}
use Rattle.name_notes.specs.Notes.{told_if, reserved_arguments, arguments_in, method_arguments, is_other, mention_notes, all_notes}
use Rattle.name_notes.specs.declared.reserved.Reserved.{Reserved}

-- one row more
pub rows_next : (rows : List Reserved) (i : ℕ) (row : Reserved) (name : NameSeg) → i < length rows → row ≡ get_or rows i row → arguments_in (drop i rows) name ≡ (if bytes_eq row.name name then Some row.arguments else arguments_in (drop (i + 1) rows) name)
rows_next rows i row name lt e =
    by_suc rows i lt e ∙ ap (λ k. if bytes_eq row.name name then Some row.arguments else arguments_in (drop k rows) name) (let s : suc i ≡ i + 1 = omega arith in s)
  where
    by_suc : (rows : List Reserved) (i : ℕ) → i < length rows → row ≡ get_or rows i row → arguments_in (drop i rows) name ≡ (if bytes_eq row.name name then Some row.arguments else arguments_in (drop (suc i) rows) name)
    by_suc [] i lt e = absurd (omega (arith, lt))
    by_suc (x ∷ rows) zero lt e = ap (λ r. if bytes_eq r.name name then Some r.arguments else arguments_in rows name) (sym e)
    by_suc (x ∷ rows) (suc i) lt e = by_suc rows i (omega (arith, lt)) e

-- no row is left
pub rows_end : (rows : List Reserved) (i : ℕ) (name : NameSeg) → length rows ≤ i → arguments_in (drop i rows) name ≡ arguments_in [] name
rows_end rows i name le = ap (λ rs. arguments_in rs name) (drop_all i rows le)

module _ (paths : List AbsolutePath) (is_method is_used : AbsolutePath → Bool) where
  -- one mention more
  pub notes_next : (mentions : List CodeMention) (i : ℕ) (m : CodeMention) (old new all : List Message) → i < length mentions → m ≡ get_or mentions i m → new ≡ old ++ mention_notes is_method is_used (shown paths m) → old ++ all_notes is_method is_used (drop i (all_shown paths mentions)) ≡ all → new ++ all_notes is_method is_used (drop (i + 1) (all_shown paths mentions)) ≡ all
  notes_next mentions i m old new all lt e told before =
      let rest = all_notes is_method is_used (drop (i + 1) (all_shown paths mentions)) in
      ap (λ ms. ms ++ rest) told ∙ append_assoc old (mention_notes is_method is_used (shown paths m)) rest
      ∙ ap (λ ms. old ++ all_notes is_method is_used ms) (sym (next_dropped paths mentions i m lt e)) ∙ before

  -- none is left
  pub notes_end : (mentions : List CodeMention) (i : ℕ) (told all : List Message) → length mentions ≤ i → told ++ all_notes is_method is_used (drop i (all_shown paths mentions)) ≡ all → told ≡ all
  notes_end mentions i told all le h =
      sym (ap (λ ms. told ++ all_notes is_method is_used ms) (drop_all i (all_shown paths mentions) (omega (arith, le, length-map mentions (shown paths)))) ∙ right_nil told) ∙ h

-- what is no method takes no other number of arguments than it has to
other_none : (due : Option ℕ) → is_other due None ≡ false
other_none None = refl
other_none (Some due) = refl

-- of what is no method, and is declared in none, nothing is told
pub nothing_told : (is_method is_used : AbsolutePath → Bool) (at : At) (name : Path) (as' : Declared) (scope : AbsolutePath) → method_arguments as' ≡ None → is_method scope ≡ false → mention_notes is_method is_used (Declares at name as' scope) ≡ []
nothing_told is_method is_used at name as' scope none other =
    let path = declared_path name scope in
    let first : is_other (reserved_arguments path) (method_arguments as') ≡ false = ap (is_other (reserved_arguments path)) none ∙ other_none (reserved_arguments path) in
    let second : (is_method scope && not (is_used path)) ≡ false = ap (λ own. own && not (is_used path)) other in
    ap (λ told. told_if told 3001 at.place path ++ told_if (is_method scope && not (is_used path)) 3003 at.place path) first
    ∙ ap (λ told. told_if told 3003 at.place path) second
