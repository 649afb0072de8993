-- The number that is told for words that are no command line is that of the word that spoils them.
use Rattle.std.proofs.Common.{◌≡◌, ℕ, suc, ◌+◌, ◌<◌, ◌⊎◌, inl, inr, Bool, List, [], ◌∷◌, ◌++◌, length, take, codes, Option, Some, None, Result, Ok, Err, refl, sym, ap, ◌∙◌, subst, arith}
use Rattle.std.specs.Prelude.{is_some, not, if◌then◌else◌, IfOk}
use Rattle.std.proofs.lemmas.List.{take_all}
use Rattle.asl_preprocess.specs.declared.define.Define.{Define}
use Rattle.iasl_options.specs.declared.words.Key.{Key}
use Rattle.iasl_options.specs.declared.words.Key.TheVariants as key
use Rattle.iasl_options.specs.declared.request.Options.{Options}
use Rattle.iasl_options.specs.declared.request.WordsStop.{WordsStop}
use Rattle.iasl_options.specs.declared.request.WordsStop.TheVariants as stop
use Rattle.iasl_options.specs.Words.{Word, Asks, Opens, Unknown, with_value, word_of}
use Rattle.iasl_options.specs.Asking.{Asked, Behind, with_setting, may_open, settled, behind_word, one_more, at_end, or_spoilt, asked_from, begin, asked_by}
use Rattle.iasl_options.specs.declared.switches.Switches.{Switches}
use Rattle.iasl_options.specs.Shown.{asked_of, Answers, IfBad}
use Rattle.iasl_options.specs.CommandLine.{IsCommandLine, HasHope, IsHopeless, IsOffending, hopeless, ended}
use Rattle.iasl_options.proofs.Settings.{made}
use Rattle.iasl_options.proofs.CommandLines.{line_from, line_to}

-- an option that waits for its value may have it
abbrev CanWait : Option Key → Option (List ℕ) → Type 0
CanWait (Some key.Prefix) (Some prefix) = ⊥
CanWait _ _ = Unit {0}

abbrev CanGoOn : Behind → Type 0
CanGoOn behind = CanWait behind.waiting behind.asked.prefix

-- ---- there is hope behind words that are not spoilt

Hope : ℕ → Behind → List (List ℕ) → Type 0
Hope n behind words = (more : List (List ℕ)) × (asked : Asked) × (asked_from n behind (words ++ more) ≡ Ok asked)

hope_at : (n : ℕ) (file prefix : Option (List ℕ)) (directories : List (List ℕ)) (definitions : List Define) (only enabled : Bool) (switches : Switches) (ignored : List (List ℕ)) (waiting : Option Key) → CanWait waiting prefix
    → (more : List (List ℕ)) × (asked : Asked) × (asked_from n (record { asked = made file prefix directories definitions only enabled switches ignored; waiting = waiting }) more ≡ Ok asked)
hope_at n None prefix directories definitions only enabled switches ignored None h = (codes "t" ∷ [], _, refl)
hope_at n (Some file) prefix directories definitions only enabled switches ignored None h = ([], _, refl)
hope_at n None (Some prefix) directories definitions only enabled switches ignored (Some key.Prefix) h = absurd h
hope_at n (Some file) (Some prefix) directories definitions only enabled switches ignored (Some key.Prefix) h = absurd h
hope_at n None None directories definitions only enabled switches ignored (Some key.Prefix) h = ([] ∷ codes "t" ∷ [], _, refl)
hope_at n (Some file) None directories definitions only enabled switches ignored (Some key.Prefix) h = ([] ∷ [], _, refl)
hope_at n None prefix directories definitions only enabled switches ignored (Some key.Directory) h = ([] ∷ codes "t" ∷ [], _, refl)
hope_at n (Some file) prefix directories definitions only enabled switches ignored (Some key.Directory) h = ([] ∷ [], _, refl)
hope_at n None prefix directories definitions only enabled switches ignored (Some key.Definition) h = ([] ∷ codes "t" ∷ [], _, refl)
hope_at n (Some file) prefix directories definitions only enabled switches ignored (Some key.Definition) h = ([] ∷ [], _, refl)
hope_at n None prefix directories definitions only enabled switches ignored (Some key.Message) h = ([] ∷ codes "t" ∷ [], _, refl)
hope_at n (Some file) prefix directories definitions only enabled switches ignored (Some key.Message) h = ([] ∷ [], _, refl)

hope_here : (n : ℕ) (behind : Behind) → CanGoOn behind → Hope n behind []
unfolding Hope
hope_here n behind h = hope_at n behind.asked.file behind.asked.prefix behind.asked.directories behind.asked.definitions behind.asked.only behind.asked.enabled behind.asked.switches behind.asked.ignored behind.waiting h

-- a word that does not spoil those before it leaves what can go on
settled_goes_on : (o : Option Asked) (next : Behind) → settled o ≡ Some next → CanGoOn next
settled_goes_on None next e = absurd cc
settled_goes_on (Some asked) next e =
    let is : record { asked = asked; waiting = None } ≡ next = cc in
    subst CanGoOn is tt

opened_goes_on : (asked : Asked) (key : Key) (next : Behind) → (if may_open asked key then Some (record { asked = asked; waiting = Some key }) else None) ≡ Some next → CanGoOn next
opened_goes_on asked key.Prefix next e = by_prefix asked.prefix refl e
  where
    by_prefix : (o : Option (List ℕ)) → asked.prefix ≡ o → (if not (is_some o) then Some (record { asked = asked; waiting = Some key.Prefix }) else None) ≡ Some next → CanGoOn next
    by_prefix None is k =
        let same : record { asked = asked; waiting = Some key.Prefix } ≡ next = cc in
        subst CanGoOn same (subst (CanWait (Some key.Prefix)) (sym is) tt)
    by_prefix (Some prefix) is k = absurd cc
opened_goes_on asked key.Directory next e =
    let same : record { asked = asked; waiting = Some key.Directory } ≡ next = cc in
    subst CanGoOn same tt
opened_goes_on asked key.Message next e =
    let same : record { asked = asked; waiting = Some key.Message } ≡ next = cc in
    subst CanGoOn same tt
opened_goes_on asked key.Definition next e =
    let same : record { asked = asked; waiting = Some key.Definition } ≡ next = cc in
    subst CanGoOn same tt

word_goes_on : (asked : Asked) (word : Word) (next : Behind) → behind_word asked word ≡ Some next → CanGoOn next
word_goes_on asked (Asks setting) next e = settled_goes_on (with_setting asked setting) next e
word_goes_on asked (Opens key) next e = opened_goes_on asked key next e
word_goes_on asked Unknown next e = absurd cc

goes_on : (behind : Behind) (waiting : Option Key) (word : List ℕ) (next : Behind) → one_more behind waiting word ≡ Some next → CanGoOn next
goes_on behind None word next e = word_goes_on behind.asked (word_of word) next e
goes_on behind (Some key) word next e = settled_goes_on (with_setting behind.asked (with_value key word)) next e

-- ---- where words stop

record Stop (n : ℕ) (behind : Behind) (words : List (List ℕ)) (number : ℕ) : Type 0 where
  count : ℕ
  is : n + count ≡ number
  hope : Hope n behind (take count words)
  after : ((count < length words) × ((more : List (List ℕ)) → asked_from n behind (take (suc count) words ++ more) ≡ Err number)) ⊎ (count ≡ length words)

err_at_end : (n : ℕ) (asked : Asked) (waiting : Option Key) (file : Option (List ℕ)) (number : ℕ) → at_end asked waiting file n ≡ Err number → n ≡ number
err_at_end n asked None None number e = cc
err_at_end n asked None (Some file) number e = absurd cc
err_at_end n asked (Some key) None number e = cc
err_at_end n asked (Some key) (Some file) number e = cc

spoilt_here : (n : ℕ) (behind : Behind) (word : List ℕ) (words : List (List ℕ)) (number : ℕ) → CanGoOn behind → one_more behind behind.waiting word ≡ None → n ≡ number → Stop n behind (word ∷ words) number
spoilt_here n behind word words number h is e = record {
  count = 0;
  is = omega arith;
  hope = hope_here n behind h;
  after = inl (omega arith, λ more. ap (λ o. or_spoilt n o (λ next. asked_from (suc n) next (take 0 words ++ more))) is ∙ ap Err e);
}

hope_back : (n : ℕ) (behind next : Behind) (word : List ℕ) (words : List (List ℕ)) → one_more behind behind.waiting word ≡ Some next → Hope (suc n) next words → Hope n behind (word ∷ words)
unfolding Hope
hope_back n behind next word words is h = (h.0, h.1, ap (λ o. or_spoilt n o (λ b. asked_from (suc n) b (words ++ h.0))) is ∙ h.2)

stop_back : (n : ℕ) (behind next : Behind) (word : List ℕ) (words : List (List ℕ)) (number : ℕ) → one_more behind behind.waiting word ≡ Some next → Stop (suc n) next words number → Stop n behind (word ∷ words) number
stop_back n behind next word words number is h = record {
  count = suc h.count;
  is = let e = h.is in omega arith;
  hope = hope_back n behind next word (take h.count words) is h.hope;
  after = by_after h.after;
}
  where
    by_after : ((h.count < length words) × ((more : List (List ℕ)) → asked_from (suc n) next (take (suc h.count) words ++ more) ≡ Err number)) ⊎ (h.count ≡ length words)
        → ((suc h.count < length (word ∷ words)) × ((more : List (List ℕ)) → asked_from n behind (take (suc (suc h.count)) (word ∷ words) ++ more) ≡ Err number)) ⊎ (suc h.count ≡ length (word ∷ words))
    by_after (inl k) = inl (omega arith, λ more. ap (λ o. or_spoilt n o (λ b. asked_from (suc n) b (take (suc h.count) words ++ more))) is ∙ k.1 more)
    by_after (inr k) = inr (ap suc k)

stops : (n : ℕ) (behind : Behind) (words : List (List ℕ)) (number : ℕ) → CanGoOn behind → asked_from n behind words ≡ Err number → Stop n behind words number
stops n behind [] number h e =
    let same : n ≡ number = err_at_end n behind.asked behind.waiting behind.asked.file number e in
    record { count = 0; is = omega arith; hope = hope_here n behind h; after = inr refl }
stops n behind (word ∷ words) number h e = by_next (one_more behind behind.waiting word) refl e (λ next. stops (suc n) next words number)
  where
    by_next : (o : Option Behind) → one_more behind behind.waiting word ≡ o → or_spoilt n o (λ next. asked_from (suc n) next words) ≡ Err number
        → ((next : Behind) → CanGoOn next → asked_from (suc n) next words ≡ Err number → Stop (suc n) next words number) → Stop n behind (word ∷ words) number
    by_next None is k go = let same : n ≡ number = cc in spoilt_here n behind word words number h is same
    by_next (Some next) is k go = stop_back n behind next word words number is (go next (goes_on behind behind.waiting word next is) k)

-- ---- the whole

hope_of : (words : List (List ℕ)) → Hope 0 begin words → HasHope IsCommandLine words
unfolding Hope
hope_of words h = (h.0, h.1, line_from (words ++ h.0) h.1 h.2)

never_both : (r : Result Asked ℕ) (asked : Asked) (number : ℕ) → r ≡ Ok asked → r ≡ Err number → ⊥
never_both r asked number e k = cc

offending_at : (words : List (List ℕ)) (number : ℕ) → asked_by words ≡ Err number → Stop 0 begin words number → IsOffending IsCommandLine words number
offending_at words number e h =
    let is : h.count ≡ number = (let k = h.is in omega arith) in
    subst (IsOffending IsCommandLine words) is (by_after h.after)
  where
    by_after : ((h.count < length words) × ((more : List (List ℕ)) → asked_from 0 begin (take (suc h.count) words ++ more) ≡ Err number)) ⊎ (h.count ≡ length words) → IsOffending IsCommandLine words h.count
    by_after (inl k) =
        let s : suc h.count ≡ h.count + 1 = omega arith in
        hopeless k.0 (hope_of (take h.count words) h.hope) (subst (λ m. IsHopeless IsCommandLine (take m words)) s (λ more asked line. never_both (asked_by (take (suc h.count) words ++ more)) asked number (line_to (take (suc h.count) words ++ more) asked line) (k.1 more)))
    by_after (inr k) =
        let whole : take h.count words ≡ words = take_all h.count words (omega arith) in
        ended k (subst (HasHope IsCommandLine) whole (hope_of (take h.count words) h.hope)) (λ asked line. never_both (asked_by words) asked number (line_to words asked line) e)

pub offending : (words : List (List ℕ)) (number : ℕ) → asked_by words ≡ Err number → IsOffending IsCommandLine words number
offending words number e = offending_at words number e (stops 0 begin words number tt e)

-- ---- what a call answers

pub answer_good : (words : List (List ℕ)) (answer : Result Options WordsStop) → Answers answer (asked_by words) → IfOk answer (λ options. IsCommandLine words (asked_of options))
answer_good words (Ok options) h = line_from words (asked_of options) h
answer_good words (Err reason) h = tt

pub answer_every : (words : List (List ℕ)) (answer : Result Options WordsStop) → Answers answer (asked_by words) → (asked : Asked) → IsCommandLine words asked → Answers answer (Ok asked)
answer_every words answer h asked line = subst (Answers answer) (line_to words asked line) h

pub answer_bad : (words : List (List ℕ)) (answer : Result Options WordsStop) → Answers answer (asked_by words) → IfBad answer (IsOffending IsCommandLine words)
answer_bad words (Ok options) h = tt
answer_bad words (Err (stop.Bad number)) h = offending words number h
answer_bad words (Err stop.Memory) h = tt
