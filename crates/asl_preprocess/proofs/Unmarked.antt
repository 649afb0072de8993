-- A file without a `#` has no directive.
use Rattle.std.proofs.Common.{◌≡◌, ℕ, ◌+◌, ◌<◌, Bool, true, false, cond, List, [], ◌∷◌, ◌++◌, length, slice_index, Option, Some, None, refl, sym, ap, ◌∙◌, arith}
use Rattle.std.specs.Prelude.{◌==◌, is_some}
use Rattle.std.specs.Option.{option_to_list}
use Rattle.std.specs.List.{All}
use Rattle.std.proofs.lemmas.List.Elements.{All-head, All-tail, All-take, All-drop, All-from_get_or}
use Rattle.memchr.specs.Find.{IsFirstByte, is_byte}
use Rattle.asl_fragments.specs.Fragments.{ends_in_comment}
use Rattle.asl_directives.specs.Words.{blanks_before, past_blanks, behind_first, behind_mark}
use Rattle.asl_preprocess.specs.Rows.{Ordinary, Between, file_lines, begins_directive, turn_within, rows_from, rows_of}
use Rattle.asl_preprocess.proofs.Everywhere.{lines_all}

abbrev IsUnmarked : List ℕ → Type 0
IsUnmarked text = All (λ b. (b == 35) ≡ false) text

no_mark : (text : List ℕ) → IsUnmarked text → behind_mark 35 text ≡ None
no_mark text h = by (past_blanks text) (All-drop (λ b. (b == 35) ≡ false) (blanks_before text) text h)
  where
    by : (rest : List ℕ) → IsUnmarked rest → behind_first 35 rest ≡ None
    by [] k = refl
    by (c ∷ cs) k = ap (λ t. cond t (Some cs) None) (All-head (λ b. (b == 35) ≡ false) c cs k)

no_directive : (in_comment : Bool) (line : List ℕ) → IsUnmarked line → begins_directive in_comment line ≡ false
no_directive true line h = refl
no_directive false line h = ap is_some (no_mark line h)

-- there are the same rows, whether directives are enabled or not
same_rows : (in_comment : Bool) (n : ℕ) (lines : List (List ℕ)) → All IsUnmarked lines → rows_from true (Between in_comment) n lines ≡ rows_from false (Between in_comment) n lines
same_rows in_comment n [] h = refl
same_rows in_comment n (line ∷ lines) h =
    ap (λ t. option_to_list (cond t (turn_within n line) (Some (Ordinary n in_comment line), Between (ends_in_comment in_comment line))).0
    ++ rows_from true (cond t (turn_within n line) (Some (Ordinary n in_comment line), Between (ends_in_comment in_comment line))).1 (n + 1) lines) (no_directive in_comment line (All-head IsUnmarked line lines h))
    ∙ ap (λ rows. Ordinary n in_comment line ∷ rows) (same_rows (ends_in_comment in_comment line) (n + 1) lines (All-tail IsUnmarked line lines h))

none_marked : (bytes : List ℕ) → IsFirstByte (is_byte 35) bytes None → IsUnmarked bytes
none_marked bytes none = All-from_get_or (λ b. (b == 35) ≡ false) bytes 0 (λ k lt. by k lt ((slice_index bytes k) == 35) refl)
  where
    by : (k : ℕ) → k < length bytes → (t : Bool) → ((slice_index bytes k) == 35) ≡ t → t ≡ false
    by k lt true e = absurd (none k (omega arith) lt e)
    by k lt false e = refl

pub marked_rows : (bytes : List ℕ) (found : Option ℕ) → IsFirstByte (is_byte 35) bytes found → rows_of (is_some found) bytes ≡ rows_of true bytes
marked_rows bytes (Some n) h = refl
marked_rows bytes None h =
    sym (same_rows false 1 (file_lines bytes) (lines_all IsUnmarked (λ n text. All-take (λ b. (b == 35) ≡ false) n text) (λ n text. All-drop (λ b. (b == 35) ≡ false) n text) bytes (none_marked bytes h)))
