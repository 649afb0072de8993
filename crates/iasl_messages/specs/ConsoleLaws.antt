-- What the console's text says of joined and of sorted messages.
use Rattle.std.proofs.Common.{◌≡◌, ℕ, ◌+◌, Bool, List, [], ◌∷◌, ◌++◌, refl, sym, ap, ◌∙◌, append_assoc, cond}
use Rattle.std.specs.List.{All}
use Rattle.std.proofs.lemmas.List.Sums.{sum_by-append}
use Rattle.std.proofs.lemmas.List.Sorted.{All-permutation, sum_by-IsPermutation}
use Rattle.iasl_messages.specs.declared.message.Message.{Message}
use Rattle.iasl_messages.specs.declared.severity.Severity.{Severity}
use Rattle.iasl_messages.specs.declared.severity.Severity.TheVariants.{Remark, Warning, Error}
use Rattle.iasl_messages.specs.Severity.{severity_of, is_same, count_of}
use Rattle.iasl_messages.specs.Order.{sorted_messages}
use Rattle.iasl_messages.specs.OrderLaws.{sorted_messages-IsPermutation}
use Rattle.iasl_messages.specs.Console.{message_line, messages_text, counts_line, summary_line}

-- the text of joined lists is their texts joined
pub messages_text-append : (files : List (List ℕ)) (brief : Bool) (ms ns : List Message) →
    messages_text files brief (ms ++ ns) ≡ messages_text files brief ms ++ messages_text files brief ns
messages_text-append files brief [] ns = refl
messages_text-append files brief (m ∷ ms) ns =
    ap (λ text. message_line files brief m ++ text) (messages_text-append files brief ms ns)
    ∙ sym (append_assoc (message_line files brief m) (messages_text files brief ms) (messages_text files brief ns))

-- the counts of joined lists add up
pub count_of-append : (severity : Severity) (ms ns : List Message) → count_of severity (ms ++ ns) ≡ count_of severity ms + count_of severity
    ns
count_of-append severity ms ns = sum_by-append (λ (m : Message). cond (is_same severity (severity_of m.number)) 1 0) ms ns

-- sorting keeps the counts
pub count_of-sorted : (severity : Severity) (ms : List Message) → count_of severity (sorted_messages ms) ≡ count_of severity ms
count_of-sorted severity ms = sum_by-IsPermutation (λ (m : Message). cond (is_same severity (severity_of m.number)) 1 0) ms
    (sorted_messages ms) (sorted_messages-IsPermutation ms)

-- sorting keeps the summary
pub summary_line-sorted : (ms : List Message) → summary_line (sorted_messages ms) ≡ summary_line ms
summary_line-sorted ms =
    ap (λ n. counts_line n (count_of Warning (sorted_messages ms)) (count_of Remark (sorted_messages ms))) (count_of-sorted Error ms)
    ∙ ap (λ n. counts_line (count_of Error ms) n (count_of Remark (sorted_messages ms))) (count_of-sorted Warning ms)
    ∙ ap (λ n. counts_line (count_of Error ms) (count_of Warning ms) n) (count_of-sorted Remark ms)

-- what holds of each message holds of each after sorting
pub sorted_messages-All : (P : Message → Type 0) (ms : List Message) → All P ms → All P (sorted_messages ms)
sorted_messages-All P ms all = All-permutation P ms (sorted_messages ms) (sorted_messages-IsPermutation ms) all
