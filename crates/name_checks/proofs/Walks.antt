-- One mention after another.
use Rattle.std.proofs.Common.{◌≡◌, ℕ, ◌+◌, ◌<◌, ◌≤◌, List, [], ◌∷◌, ◌++◌, length, get_or, take, drop, map, sym, ap, ◌∙◌, arith}
use Rattle.std.proofs.lemmas.List.{append_assoc, drop_all, length-map}
use Rattle.acpi_values.specs.Paths.{AbsolutePath}
use Rattle.asl_meaning.specs.Declarations.{Declarations, nothing_declared}
use Rattle.acpi_names.specs.Errors.{NameError, Whole}
use Rattle.acpi_names.specs.Mentions.{mention_errors, all_errors, mention_types, all_types, after, after_all}
use Rattle.acpi_names.specs.Shown.{shown, all_shown}
use Rattle.acpi_names.specs.declared.mention.Mention.{Mention as CodeMention}
use Rattle.acpi_names.proofs.Mentions.{after_append, right_nil}
use Rattle.name_checks.specs.Faults.{Finds, fault_as}
use Rattle.name_checks.specs.declared.fault.Fault.{Fault}
use Rattle.name_kinds.proofs.Places.{next_taken, next_dropped}

-- what is found is moved from what is still to come
moved : (a b x y r : List NameError) → b ≡ a ++ x → a ++ (x ++ y) ≡ r → b ++ y ≡ r
moved a b x y r e h = ap (λ es. es ++ y) e ∙ append_assoc a x y ∙ h

pub types_next : (paths : List AbsolutePath) (whole : Whole) (mentions : List CodeMention) (i : ℕ) (m : CodeMention) (old new : List Fault) (r : List NameError) → i < length mentions → m ≡ get_or mentions i m → Finds paths old new (mention_types whole (shown paths m))
    → map (fault_as paths) old ++ all_types whole (drop i (all_shown paths mentions)) ≡ r → map (fault_as paths) new ++ all_types whole (drop (i + 1) (all_shown paths mentions)) ≡ r
types_next paths whole mentions i m old new r lt e found h =
    moved (map (fault_as paths) old) (map (fault_as paths) new) (mention_types whole (shown paths m)) (all_types whole (drop (i + 1) (all_shown paths mentions))) r found
    (ap (λ ms. map (fault_as paths) old ++ all_types whole ms) (sym (next_dropped paths mentions i m lt e)) ∙ h)

pub after_next : (paths : List AbsolutePath) (mentions : List CodeMention) (i : ℕ) (m : CodeMention) → i < length mentions → m ≡ get_or mentions i m → after_all (take (i + 1) (all_shown paths mentions)) nothing_declared ≡ after (shown paths m) (after_all (take i (all_shown paths mentions)) nothing_declared)
after_next paths mentions i m lt e = ap (λ ms. after_all ms nothing_declared) (next_taken paths mentions i m lt e) ∙ after_append (take i (all_shown paths mentions)) (shown paths m ∷ []) nothing_declared

pub errors_next : (paths : List AbsolutePath) (whole : Whole) (mentions : List CodeMention) (i : ℕ) (m : CodeMention) (old new : List Fault) (r : List NameError) → i < length mentions → m ≡ get_or mentions i m → Finds paths old new (mention_errors whole (shown paths m) (after_all (take i (all_shown paths mentions)) nothing_declared))
    → map (fault_as paths) old ++ all_errors whole (drop i (all_shown paths mentions)) (after_all (take i (all_shown paths mentions)) nothing_declared) ≡ r → map (fault_as paths) new ++ all_errors whole (drop (i + 1) (all_shown paths mentions)) (after_all (take (i + 1) (all_shown paths mentions)) nothing_declared) ≡ r
errors_next paths whole mentions i m old new r lt e found h =
    let d = after_all (take i (all_shown paths mentions)) nothing_declared in
    let rest = drop (i + 1) (all_shown paths mentions) in
    ap (λ f. map (fault_as paths) new ++ all_errors whole rest f) (after_next paths mentions i m lt e)
    ∙ moved (map (fault_as paths) old) (map (fault_as paths) new) (mention_errors whole (shown paths m) d) (all_errors whole rest (after (shown paths m) d)) r found
    (ap (λ ms. map (fault_as paths) old ++ all_errors whole ms d) (sym (next_dropped paths mentions i m lt e)) ∙ h)

-- nothing is left to come
pub errors_end : (paths : List AbsolutePath) (whole : Whole) (mentions : List CodeMention) (i : ℕ) (d : Declarations) (found : List Fault) (r : List NameError) → length mentions ≤ i → map (fault_as paths) found ++ all_errors whole (drop i (all_shown paths mentions)) d ≡ r → map (fault_as paths) found ≡ r
errors_end paths whole mentions i d found r le h =
    sym (ap (λ ms. map (fault_as paths) found ++ all_errors whole ms d) (drop_all i (all_shown paths mentions) (omega (arith, le, length-map mentions (shown paths)))) ∙ right_nil (map (fault_as paths) found)) ∙ h
