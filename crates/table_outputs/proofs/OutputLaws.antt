-- The files of the outputs of tables.
use Rattle.std.proofs.Common.{◌≡◌, ℕ, ◌+◌, ◌<◌, true, List, [], ◌∷◌, ◌++◌, append_assoc, append-nil, length, get_or, take, drop, map, sym, ap, ◌∙◌, subst}
use Rattle.std.proofs.lemmas.List.{take_more, drop_more, map-append}
use Rattle.iasl_ports.specs.Gained.{Named}
use Rattle.iasl_backends.specs.Asked.{is_asked}
use Rattle.iasl_backends.specs.declared.asked.Asked.{Asked as Kinds}
use Rattle.iasl_backends.specs.declared.backend.Kind.{Kind}
use Rattle.table_outputs.specs.declared.decision.OutputNames.{OutputNames}
use Rattle.table_outputs.specs.declared.decision.TableOutputs.{TableOutputs}
use Rattle.table_outputs.specs.Decision.{table_files_under, all_files, table_kinds, kinds_of, HaveKinds}

-- files, a first one behind them, and what each of two steps adds behind that
pub behind_table : {F : Type 0} (shown : F → Named) (first : F) (earlier one two three : List F) (table : Named) (c l : List Named) → one ≡ earlier ++ first ∷ [] → shown first ≡ table → map shown two ≡ map shown one ++ c → map shown three ≡ map shown two ++ l
    → map shown three ≡ map shown earlier ++ (table ∷ c ++ l)
behind_table shown first earlier one two three table c l is named more last =
    last ∙ ap (λ xs. xs ++ l) (more ∙ ap (λ xs. map shown xs ++ c) is ∙ ap (λ xs. xs ++ c) (map-append shown earlier (first ∷ []) ∙ ap (λ t. map shown earlier ++ t ∷ []) named) ∙ append_assoc (map shown earlier) (table ∷ []) c)
    ∙ append_assoc (map shown earlier) (table ∷ c) l

-- the same where the first is added by a step too
pub behind_step : {F : Type 0} (shown : F → Named) (old one two three : List F) (table : Named) (c l : List Named) → map shown one ≡ map shown old ++ table ∷ [] → map shown two ≡ map shown one ++ c → map shown three ≡ map shown two ++ l
    → map shown three ≡ map shown old ++ (table ∷ c ++ l)
behind_step shown old one two three table c l first more last =
    last ∙ ap (λ xs. xs ++ l) (more ∙ ap (λ xs. xs ++ c) first ∙ append_assoc (map shown old) (table ∷ []) c) ∙ append_assoc (map shown old) (table ∷ c) l

-- a kind that is asked for of some names is asked for of the same names
pub asked_same : (names other : OutputNames) (kind : Kind) → names ≡ other → is_asked (kinds_of other) kind ≡ true → is_asked (kinds_of names) kind ≡ true
asked_same names other kind e h = ap (λ (n : OutputNames). is_asked (kinds_of n) kind) e ∙ h

-- the files of one table more
files_more : (ts : List TableOutputs) (t : TableOutputs) → all_files (ts ++ t ∷ []) ≡ all_files ts ++ table_files_under t.names t.pieces
files_more [] t = append-nil (table_files_under t.names t.pieces)
files_more (x ∷ xs) t = ap (λ fs. table_files_under x.names x.pieces ++ fs) (files_more xs t) ∙ sym (append_assoc (table_files_under x.names x.pieces) (all_files xs) (table_files_under t.names t.pieces))

-- the next of some tables has outputs of these kinds
pub next_kinds : (kinds : Kinds) (ts : List TableOutputs) (i : ℕ) (t : TableOutputs) → i < length ts → t ≡ get_or ts i t → HaveKinds kinds (drop i ts) → (table_kinds t.names ≡ kinds) × HaveKinds kinds (drop (i + 1) ts)
next_kinds kinds ts i t lt is h = subst (HaveKinds kinds) (drop_more ts i t lt ∙ ap (λ x. x ∷ drop (i + 1) ts) (sym is)) h

next_taken : (ts : List TableOutputs) (i : ℕ) (t : TableOutputs) → i < length ts → t ≡ get_or ts i t → all_files (take (i + 1) ts) ≡ all_files (take i ts) ++ table_files_under t.names t.pieces
next_taken ts i t lt is = ap all_files (take_more ts i t lt ∙ ap (λ x. take i ts ++ x ∷ []) (sym is)) ∙ files_more (take i ts) t

pub next_files : {F : Type 0} (shown : F → Named) (ts : List TableOutputs) (i : ℕ) (t : TableOutputs) (old new : List F) → i < length ts → t ≡ get_or ts i t → map shown new ≡ map shown old ++ table_files_under t.names t.pieces
    → map shown old ≡ all_files (take i ts) → map shown new ≡ all_files (take (i + 1) ts)
next_files shown ts i t old new lt is more before = more ∙ ap (λ fs. fs ++ table_files_under t.names t.pieces) before ∙ sym (next_taken ts i t lt is)

-- the names of files
abbrev names_in : List Named → List (List ℕ)
names_in files = map (λ file. file.0) files

pub next_names : {F : Type 0} (shown : F → List ℕ) (ts : List TableOutputs) (i : ℕ) (t : TableOutputs) (old new : List F) → i < length ts → t ≡ get_or ts i t
    → map shown new ≡ map shown old ++ map (λ file. file.0) (table_files_under t.names t.pieces) → map shown old ≡ map (λ file. file.0) (all_files (take i ts)) → map shown new ≡ map (λ file. file.0) (all_files (take (i + 1) ts))
next_names shown ts i t old new lt is more before =
    more ∙ ap (λ fs. fs ++ names_in (table_files_under t.names t.pieces)) before
    ∙ sym (ap names_in (next_taken ts i t lt is) ∙ map-append (λ file. file.0) (all_files (take i ts)) (table_files_under t.names t.pieces))

-- a first name behind others, and what each of two steps adds behind it
pub names_behind : {F : Type 0} (shown : F → List ℕ) (old one two three : List F) (first : F) (name : List ℕ) (c l : List Named) → one ≡ old ++ first ∷ [] → shown first ≡ name
    → map shown two ≡ map shown one ++ map (λ file. file.0) c → map shown three ≡ map shown two ++ map (λ file. file.0) l → map shown three ≡ map shown old ++ (name ∷ map (λ file. file.0) (c ++ l))
names_behind shown old one two three first name c l is named more last =
    last ∙ ap (λ xs. xs ++ names_in l) (more ∙ ap (λ xs. xs ++ names_in c) (ap (map shown) is ∙ map-append shown old (first ∷ []) ∙ ap (λ n. map shown old ++ n ∷ []) named))
    ∙ append_assoc (map shown old ++ name ∷ []) (names_in c) (names_in l) ∙ append_assoc (map shown old) (name ∷ []) (names_in c ++ names_in l) ∙ ap (λ xs. map shown old ++ name ∷ xs) (sym (map-append (λ (file : Named). file.0) c l))
