-- The file and the prefix that words ask for are UTF-8, as the words are.
use Rattle.std.proofs.Common.{◌≡◌, ℕ, suc, ◌<◌, Bool, true, false, cond, List, [], ◌∷◌, ◌++◌, take, drop, map, codes, string_bytes, Option, Some, None, Result, Ok, Err, refl, sym, ap, ◌∙◌, subst, arith}
use Rattle.std.specs.Prelude.{is_some, if◌then◌else◌, IfOk}
use Rattle.std.specs.declared.string.String.{String}
use Rattle.std.specs.Str.{IsUtf8, bytes_eq}
use Rattle.std.proofs.lemmas.Str.{IsUtf8-drop, IsUtf8-string_bytes, IsCharBoundary-after_ascii}
use Rattle.std.proofs.lemmas.Slice.Eq.{bytes_eq-Decides}
use Rattle.std.proofs.lemmas.List.{take-append-drop}
use Rattle.iasl_options.specs.declared.request.Options.{Options}
use Rattle.iasl_options.specs.declared.request.WordsStop.{WordsStop}
use Rattle.iasl_options.specs.declared.words.Key.{Key}
use Rattle.iasl_options.specs.declared.words.Key.TheVariants as key
use Rattle.iasl_options.specs.declared.switches.Switch.{Switch}
use Rattle.iasl_options.specs.Switches.{switch_of}
use Rattle.iasl_options.specs.Words.{Setting, PreprocessOnly, NoPreprocessor, Turned, Prefix, Directory, Definition, Ignored, File, Word, Asks, Opens, Unknown, with_value, valued, behind, begins_with_hyphen, or_turned, or_valued, word_of}
use Rattle.iasl_options.specs.Asking.{Asked, Behind, with_setting, may_open, settled, behind_word, one_more, at_end, or_spoilt, asked_from, begin, asked_by, front_of}
use Rattle.iasl_options.specs.Shown.{IsText, AreTexts, asked_of, Answers}
use Rattle.iasl_options.proofs.Extensions.{stem_text}

abbrev SettingIsText : Setting → Type 0
SettingIsText (Prefix prefix) = IsUtf8 prefix
SettingIsText (File file) = IsUtf8 file
SettingIsText _ = Unit {0}

abbrev WordIsText : Word → Type 0
WordIsText (Asks setting) = SettingIsText setting
WordIsText _ = Unit {0}

value_text : (key : Key) (value : List ℕ) → IsUtf8 value → SettingIsText (with_value key value)
value_text key.Prefix value u = u
value_text key.Directory value u = tt
value_text key.Definition value u = tt
value_text key.Message value u = tt

valued_text : (key : Key) (value : List ℕ) → IsUtf8 value → WordIsText (valued key value)
valued_text key [] u = tt
valued_text key (c ∷ cs) u = value_text key (c ∷ cs) u

-- what stands behind two ASCII characters
behind_two : (a b : ℕ) (rest : List ℕ) → b < 128 → IsUtf8 (a ∷ b ∷ rest) → IsUtf8 rest
behind_two a b rest lt u = IsUtf8-drop (a ∷ b ∷ rest) 2 u (IsCharBoundary-after_ascii (a ∷ b ∷ rest) 1 u (omega arith) lt)

behind_mark : (a b : ℕ) (word : List ℕ) → b < 128 → IsUtf8 word → IsText (behind (a ∷ b ∷ []) word)
behind_mark a b word lt u = by_mark (bytes_eq (take 2 word) (a ∷ b ∷ [])) refl
  where
    by_mark : (c : Bool) → bytes_eq (take 2 word) (a ∷ b ∷ []) ≡ c → IsText (cond c (Some (drop 2 word)) None)
    by_mark false e = tt
    by_mark true e =
        let front : take 2 word ≡ a ∷ b ∷ [] = (bytes_eq-Decides (take 2 word) (a ∷ b ∷ [])).0 e in
        let whole : word ≡ a ∷ b ∷ drop 2 word = sym (take-append-drop 2 word) ∙ ap (λ xs. xs ++ drop 2 word) front in
        behind_two a b (drop 2 word) lt (subst IsUtf8 whole u)

or_text : (key : Key) (o : Option (List ℕ)) (rest : Word) → IsText o → WordIsText rest → WordIsText (or_valued key o rest)
or_text key None rest u r = r
or_text key (Some value) rest u r = valued_text key value u

-- the number of a message need not be text
message_text : (o : Option (List ℕ)) (rest : Word) → WordIsText rest → WordIsText (or_valued key.Message o rest)
message_text None rest r = r
message_text (Some []) rest r = tt
message_text (Some (c ∷ cs)) rest r = tt

cond_text : (c : Bool) (w v : Word) → WordIsText w → WordIsText v → WordIsText (cond c w v)
cond_text true w v h k = h
cond_text false w v h k = k

switch_text : (found : Option Switch) (rest : Word) → WordIsText rest → WordIsText (or_turned found rest)
switch_text None rest h = h
switch_text (Some switch) rest h = tt

word_text : (word : List ℕ) → IsUtf8 word → WordIsText (word_of word)
word_text word u =
    cond_text (bytes_eq word (codes "-P")) _ _ tt (
    cond_text (bytes_eq word (codes "-Pn")) _ _ tt (
    switch_text (switch_of word) _ (
    or_text key.Prefix (behind (codes "-p") word) _ (behind_mark 45 112 word (omega arith) u) (
    or_text key.Directory (behind (codes "-I") word) _ (behind_mark 45 73 word (omega arith) u) (
    or_text key.Definition (behind (codes "-D") word) _ (behind_mark 45 68 word (omega arith) u) (
    message_text (behind (codes "-vw") word) _ (
    cond_text (begins_with_hyphen word) Unknown (Asks (File word)) tt u)))))))

abbrev AskedText : Asked → Type 0
AskedText asked = IsText asked.file × IsText asked.prefix

abbrev MaybeText : Option Asked → Type 0
MaybeText None = Unit {0}
MaybeText (Some asked) = AskedText asked

abbrev BehindText : Option Behind → Type 0
BehindText None = Unit {0}
BehindText (Some behind) = AskedText behind.asked

unless_text : (c : Bool) (asked : Asked) → AskedText asked → MaybeText (if c then None else Some asked)
unless_text true asked h = tt
unless_text false asked h = h

when_text : (c : Bool) (asked : Asked) → AskedText asked → MaybeText (if c then Some asked else None)
when_text true asked h = h
when_text false asked h = tt

set_text : (asked : Asked) (setting : Setting) → AskedText asked → SettingIsText setting → MaybeText (with_setting asked setting)
set_text asked (Prefix prefix) h u = unless_text (is_some asked.prefix) _ (h.0, u)
set_text asked (Directory directory) h u = h
set_text asked (Definition name text) h u = h
set_text asked PreprocessOnly h u = when_text asked.enabled _ h
set_text asked NoPreprocessor h u = unless_text asked.only _ h
set_text asked (Turned switch) h u = h
set_text asked (Ignored number) h u = h
set_text asked (File []) h u = tt
set_text asked (File (c ∷ cs)) h u = unless_text (is_some asked.file) _ (u, h.1)

settled_text : (o : Option Asked) → MaybeText o → BehindText (settled o)
settled_text None h = tt
settled_text (Some asked) h = h

open_text : (c : Bool) (behind : Behind) → AskedText behind.asked → BehindText (if c then Some behind else None)
open_text true behind h = h
open_text false behind h = tt

take_text : (asked : Asked) (word : Word) → AskedText asked → WordIsText word → BehindText (behind_word asked word)
take_text asked (Asks setting) h u = settled_text (with_setting asked setting) (set_text asked setting h u)
take_text asked (Opens key) h u = open_text (may_open asked key) _ h
take_text asked Unknown h u = tt

more_text : (behind : Behind) (waiting : Option Key) (word : List ℕ) → AskedText behind.asked → IsUtf8 word → BehindText (one_more behind waiting word)
more_text behind None word h u = take_text behind.asked (word_of word) h (word_text word u)
more_text behind (Some key) word h u = settled_text (with_setting behind.asked (with_value key word)) (set_text behind.asked (with_value key word) h (value_text key word u))

abbrev ResultText : Result Asked ℕ → Type 0
ResultText (Ok asked) = AskedText asked
ResultText (Err n) = Unit {0}

-- a prefix without its extension is UTF-8
front_text : (acpica : Bool) (prefix : Option (List ℕ)) → IsText prefix → IsText (front_of acpica prefix)
front_text true (Some prefix) u = stem_text prefix u
front_text true None u = tt
front_text false prefix u = u

end_text : (asked : Asked) (waiting : Option Key) (file : Option (List ℕ)) (n : ℕ) → AskedText asked → ResultText (at_end asked waiting file n)
end_text asked None (Some file) n h = (h.0, front_text asked.switches.acpica asked.prefix h.1)
end_text asked None None n h = tt
end_text asked (Some key) (Some file) n h = tt
end_text asked (Some key) None n h = tt

abbrev AllText : List (List ℕ) → Type 0
AllText [] = Unit {0}
AllText (word ∷ words) = IsUtf8 word × AllText words

from_text : (n : ℕ) (behind : Behind) (words : List (List ℕ)) → AskedText behind.asked → AllText words → ResultText (asked_from n behind words)
from_text n behind [] h all = end_text behind.asked behind.waiting behind.asked.file n h
from_text n behind (word ∷ words) h all = by_next (one_more behind behind.waiting word) (more_text behind behind.waiting word h all.0) (λ next k. from_text (suc n) next words k all.1)
  where
    by_next : (o : Option Behind) → BehindText o → ((next : Behind) → AskedText next.asked → ResultText (asked_from (suc n) next words)) → ResultText (or_spoilt n o (λ next. asked_from (suc n) next words))
    by_next None h go = tt
    by_next (Some next) h go = go next h

strings_text : {Z : Type 0} (words : List (String Z)) → AllText (map string_bytes words)
strings_text [] = tt
strings_text (word ∷ words) = (IsUtf8-string_bytes word, strings_text words)

result_text : (r : Result Asked ℕ) (options : Options) → ResultText r → r ≡ Ok (asked_of options) → AskedText (asked_of options)
result_text r options h e = subst ResultText e h

options_text : {Z : Type 0} (words : List (String Z)) (options : Options) → asked_by (map string_bytes words) ≡ Ok (asked_of options) → AreTexts options
options_text words options e =
    let h = result_text (asked_by (map string_bytes words)) options (from_text 0 begin (map string_bytes words) (tt, tt) (strings_text words)) e in
    record { file = h.0; prefix = h.1 }

pub answer_texts : {Z : Type 0} (words : List (String Z)) (answer : Result Options WordsStop) → Answers answer (asked_by (map string_bytes words)) → IfOk answer AreTexts
answer_texts words (Ok options) h = options_text words options h
answer_texts words (Err stop) h = tt
