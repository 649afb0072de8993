-- A directive's text joined with the lines in which it goes on.
use Rattle.std.proofs.Common.{◌≡◌, ℕ, ◌+◌, Bool, true, false, cond, ◌&&◌, List, [], ◌∷◌, ◌++◌, Option, Some, None, ap, sym, ◌∙◌}
use Rattle.std.specs.Option.{option_to_list}
use Rattle.asl_preprocess.specs.Rows.{Row, Directive, Ordinary, Between, Within, continued, begins_directive, turn_joined, turn_within, rows_from}
use Rattle.asl_fragments.specs.Fragments.{ends_in_comment}

-- the rows of the lines from n on, behind a directive's text so far and the text without its `\`
abbrev pub joined_by : Bool → ℕ → List (List ℕ) → ℕ → List ℕ → Option (List ℕ) → List Row
joined_by enabled n lines start text front =
    option_to_list (turn_joined start text front).0 ++ rows_from enabled (turn_joined start text front).1 n lines

pub joined_end : (enabled : Bool) (n : ℕ) (lines : List (List ℕ)) (start : ℕ) (text : List ℕ) → continued text ≡ None
    → joined_by enabled n lines start text (continued text) ≡ Directive start text ∷ rows_from enabled (Between false) n lines
joined_end enabled n lines start text h = ap (joined_by enabled n lines start text) h

pub joined_last : (enabled : Bool) (n : ℕ) (lines : List (List ℕ)) (start : ℕ) (text front : List ℕ) → continued text ≡ Some front → lines ≡ []
    → joined_by enabled n lines start text (continued text) ≡ Directive start front ∷ rows_from enabled (Between false) n lines
joined_last enabled n lines start text front h e = rw e (ap (joined_by enabled n [] start text) h)

pub joined_on : (enabled : Bool) (n m : ℕ) (lines rest : List (List ℕ)) (start : ℕ) (text front next : List ℕ) → continued text ≡ Some front → lines ≡ next ∷ rest → m ≡ n + 1
    → joined_by enabled n lines start text (continued text) ≡ joined_by enabled m rest start (front ++ next) (continued (front ++ next))
joined_on enabled n m lines rest start text front next h e f =
    ap (joined_by enabled n lines start text) h ∙ ap (rows_from enabled (Within start front) n) e
    ∙ ap (λ k. joined_by enabled k rest start (front ++ next) (continued (front ++ next))) (sym f)

-- a directive's first line
pub directive_first : (enabled in_comment : Bool) (n m : ℕ) (lines rest : List (List ℕ)) (line : List ℕ) → enabled ≡ true → begins_directive in_comment line ≡ true → lines ≡ line ∷ rest → m ≡ n + 1
    → rows_from enabled (Between in_comment) n lines ≡ joined_by enabled m rest n line (continued line)
directive_first enabled in_comment n m lines rest line on begins e f =
    ap (rows_from enabled (Between in_comment) n) e
    ∙ ap (λ (b : Bool). option_to_list (cond (b && begins_directive in_comment line) (turn_within n line) (Some (Ordinary n in_comment line), Between (ends_in_comment in_comment line))).0
    ++ rows_from enabled (cond (b && begins_directive in_comment line) (turn_within n line) (Some (Ordinary n in_comment line), Between (ends_in_comment in_comment line))).1 (n + 1) rest) on
    ∙ ap (λ (b : Bool). option_to_list (cond b (turn_within n line) (Some (Ordinary n in_comment line), Between (ends_in_comment in_comment line))).0
    ++ rows_from enabled (cond b (turn_within n line) (Some (Ordinary n in_comment line), Between (ends_in_comment in_comment line))).1 (n + 1) rest) begins
    ∙ ap (λ k. joined_by enabled k rest n line (continued line)) (sym f)
