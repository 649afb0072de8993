-- Lists of terms whose runs are nested: an ElseIf with the run behind it is the Else that it becomes, and a list of terms is written by
-- its own bytes one after another.
use Rattle.std.proofs.Common.{◌≡◌, ℕ, ◌+◌, ◌%◌, Bool, true, false, List, [], ◌∷◌, ◌++◌, length, refl, sym, ap, ◌∙◌, subst, arith, append_assoc, length-append}
use Rattle.std.specs.Prelude.{if◌then◌else◌}
use Rattle.std.proofs.lemmas.List.{append-nil}
use Rattle.byteorder.specs.Endian.{little_bytes}
use Rattle.asl_tree.specs.declared.term.Op.{Op}
use Rattle.asl_tree.specs.declared.term.Declaration.TheVariants as Declaration
use Rattle.asl_tree.specs.declared.term.Control.TheVariants as Control
use Rattle.asl_tree.specs.Tree.{At, Tree, Integer, Use, Call, Apply, Buffer, Package, VarPackage, CondRefOf, Return, Name, Method, Container', Scope}
use Rattle.asl_tree.specs.Tree.{Trees, no_trees, tree, If, ElseIf, Else, While, OperationRegion, BankField, CreateField, Operated, Assigned, AssignedBy, Switch, Case, Default, For, Print}
use Rattle.asl_tree.specs.View.{form}
use Rattle.term_places.specs.Places.{holds_terms}
use Rattle.else_runs.specs.Runs.{before, nested_in, nested_args, nested_all}
use Rattle.aml_code.specs.Encoding.{packed, name_bytes}
use Rattle.aml_code.specs.Fronts.{IsName}
use Rattle.aml_meaning.specs.Encoded.{encoded, encoded_all}
use Rattle.aml_sizes.specs.declared.style.IntegerStyle.{IntegerStyle}
use Rattle.aml_sizes.specs.Codes.{letters_of}
use Rattle.aml_sizes.specs.TermBytes.{head_bytes}
use Rattle.aml_sizes.specs.TermLists.{is_else_if, else_if_head, own_head, run_of}
use Rattle.aml_sizes.proofs.Forms.{IsWhole, AreWhole, packed_is, trees_bytes}
use Rattle.aml_sizes.proofs.Holds.{holds, form_holds}
use Rattle.aml_sizes.proofs.ListLengths.{one_head}

-- ---- what stands in lists

-- names and slots can be written, and no form is out of shape, in the terms of a list
abbrev mutual
  pub IsListed : Tree → Type 0
  IsListed (Method at name flags body) = IsName name × AreListed body
  IsListed (Container' kind at name body) = IsName name × AreListed body
  IsListed (Scope here at name body) = IsName name × AreListed body
  IsListed (If test body) = IsWhole test × AreListed body
  IsListed (Else body) = AreListed body
  IsListed (While test body) = IsWhole test × AreListed body
  IsListed term = IsWhole term

  pub AreListed : Trees → Type 0
  AreListed no_trees = Unit {0}
  AreListed (tree t ts) = IsListed t × AreListed ts

-- what holds no list of terms has no runs to nest
mutual
  pub unnested : (t : Tree) → IsWhole (nested_in t) → nested_in t ≡ t
  unnested (Call at name args) h = ap (Call at name) (unnested_args args h.1)
  unnested (Apply op args targets) h = ap (λ ts. Apply op ts (nested_args targets)) (unnested_args args h.0) ∙ ap (Apply op args) (unnested_args targets h.1)
  unnested (Operated op args) h = absurd h
  unnested (Assigned target value) h = absurd h
  unnested (AssignedBy op target value) h = absurd h
  unnested (Buffer size bytes) h = ap (λ t. Buffer t bytes) (unnested size h)
  unnested (Package n elements) h = ap (Package n) (unnested_args elements h)
  unnested (VarPackage size elements) h = ap (λ t. VarPackage t (nested_args elements)) (unnested size h.0) ∙ ap (VarPackage size) (unnested_args elements h.1)
  unnested (CondRefOf place target) h = ap (λ t. CondRefOf t (nested_in target)) (unnested place h.0) ∙ ap (CondRefOf place) (unnested target h.1)
  unnested (Return value) h = ap Return (unnested value h)
  unnested (Name at name value) h = ap (Name at name) (unnested value h.1)
  unnested (Method at name flags body) h = absurd h
  unnested (Container' kind at name body) h = absurd h
  unnested (Scope here at name body) h = absurd h
  unnested (If test body) h = absurd h
  unnested (ElseIf test body) h = absurd h
  unnested (Else body) h = absurd h
  unnested (While test body) h = absurd h
  unnested (For start test step body) h = absurd h
  unnested (Print place format args) h = absurd h
  unnested (Switch value cases) h = absurd h
  unnested (Case value body) h = absurd h
  unnested (Default body) h = absurd h
  unnested (OperationRegion at name space args) h = ap (OperationRegion at name space) (unnested_args args h.1)
  unnested (BankField here from region to bank value flags items) h = ap (λ t. BankField here from region to bank t flags items) (unnested value h.2)
  unnested (CreateField form args at name) h = ap (λ ts. CreateField form ts at name) (unnested_args args h.0)
  unnested term h = refl

  unnested_args : (ts : Trees) → AreWhole (nested_args ts) → nested_args ts ≡ ts
  unnested_args no_trees h = refl
  unnested_args (tree t ts) h = ap (λ x. tree x (nested_args ts)) (unnested t h.0) ∙ ap (tree t) (unnested_args ts h.1)

-- ---- a term before those behind it

-- an ElseIf, and those behind it
pub else_if_listed : (test : Tree) (body rest : Trees) → AreListed (before (ElseIf test body) rest) → (IsWhole test × AreListed body) × AreListed rest
else_if_listed test body (tree (Else other) rest) h = ((h.0.0.0, h.0.0.1), (h.0.1.0, h.1))
else_if_listed test body rest h = ((h.0.0.0, h.0.0.1), h.1)

pub rest_listed : (t : Tree) (rest : Trees) → AreListed (before t rest) → AreListed rest
rest_listed (ElseIf test body) rest h = (else_if_listed test body rest h).1
rest_listed t rest h = h.1

-- a term that holds none
pub alone_before : (t : Tree) (rest : Trees) → holds t ≡ false → AreListed (before (nested_in t) rest) → (before (nested_in t) rest ≡ tree t rest) × IsWhole t
alone_before (Method at name flags body) rest e h = absurd (grind arith)
alone_before (Container' kind at name body) rest e h = absurd (grind arith)
alone_before (Scope here at name body) rest e h = absurd (grind arith)
alone_before (If test body) rest e h = absurd (grind arith)
alone_before (ElseIf test body) rest e h = absurd (grind arith)
alone_before (Else body) rest e h = absurd (grind arith)
alone_before (While test body) rest e h = absurd (grind arith)
alone_before t rest e h = let same = unnested t h.0 in (ap (λ x. tree x rest) same, subst IsWhole same h.0)

-- a form that holds some, but no ElseIf
pub listed_before : (here : At) (op : Op) (args body rest : Trees) → holds_terms op ≡ true → is_else_if op ≡ false → AreListed (before (nested_in (form here op args body)) rest) → before (nested_in (form here op args body)) rest ≡ tree (form here op args (nested_all body)) rest
listed_before here (Op.Declaration Declaration.Method) (tree (Use at name) (tree (Integer arity) no_trees)) body rest c e h = refl
listed_before here (Op.Declaration Declaration.Method) _ body rest c e h = absurd h.0
listed_before here (Op.Declaration Declaration.Device) (tree (Use at name) no_trees) body rest c e h = refl
listed_before here (Op.Declaration Declaration.Device) _ body rest c e h = absurd h.0
listed_before here (Op.Declaration Declaration.ThermalZone) (tree (Use at name) no_trees) body rest c e h = refl
listed_before here (Op.Declaration Declaration.ThermalZone) _ body rest c e h = absurd h.0
listed_before here (Op.Declaration Declaration.PowerResource) (tree (Use at name) (tree (Integer level) (tree (Integer order) no_trees))) body rest c e h = refl
listed_before here (Op.Declaration Declaration.PowerResource) _ body rest c e h = absurd h.0
listed_before here (Op.Declaration Declaration.Processor) (tree (Use at name) (tree (Integer number) (tree (Integer address) (tree (Integer size) no_trees)))) body rest c e h = refl
listed_before here (Op.Declaration Declaration.Processor) _ body rest c e h = absurd h.0
listed_before here (Op.Declaration Declaration.Scope) (tree (Use at name) no_trees) body rest c e h = refl
listed_before here (Op.Declaration Declaration.Scope) _ body rest c e h = absurd h.0
listed_before here (Op.Control Control.If) (tree test no_trees) body rest c e h = ap (λ t. tree (If t (nested_all body)) rest) (unnested test h.0.0)
listed_before here (Op.Control Control.If) _ body rest c e h = absurd h.0
listed_before here (Op.Control Control.Else) no_trees body rest c e h = refl
listed_before here (Op.Control Control.Else) _ body rest c e h = absurd h.0
listed_before here (Op.Control Control.While) (tree test no_trees) body rest c e h = ap (λ t. tree (While t (nested_all body)) rest) (unnested test h.0.0)
listed_before here (Op.Control Control.While) _ body rest c e h = absurd h.0
listed_before here (Op.Control Control.ElseIf) args body rest c e h = absurd (grind arith)
listed_before here op args body rest c e h = absurd (grind arith)

-- its arguments and its terms
pub listed_parts : (here : At) (op : Op) (args body : Trees) → holds_terms op ≡ true → is_else_if op ≡ false → IsListed (form here op args body) → AreWhole args × AreListed body
listed_parts here (Op.Declaration Declaration.Method) (tree (Use at name) (tree (Integer arity) no_trees)) body c e h = ((h.0, (tt, tt)), h.1)
listed_parts here (Op.Declaration Declaration.Method) _ body c e h = absurd h
listed_parts here (Op.Declaration Declaration.Device) (tree (Use at name) no_trees) body c e h = ((h.0, tt), h.1)
listed_parts here (Op.Declaration Declaration.Device) _ body c e h = absurd h
listed_parts here (Op.Declaration Declaration.ThermalZone) (tree (Use at name) no_trees) body c e h = ((h.0, tt), h.1)
listed_parts here (Op.Declaration Declaration.ThermalZone) _ body c e h = absurd h
listed_parts here (Op.Declaration Declaration.PowerResource) (tree (Use at name) (tree (Integer level) (tree (Integer order) no_trees))) body c e h = ((h.0, (tt, (tt, tt))), h.1)
listed_parts here (Op.Declaration Declaration.PowerResource) _ body c e h = absurd h
listed_parts here (Op.Declaration Declaration.Processor) (tree (Use at name) (tree (Integer number) (tree (Integer address) (tree (Integer size) no_trees)))) body c e h = ((h.0, (tt, (tt, (tt, tt)))), h.1)
listed_parts here (Op.Declaration Declaration.Processor) _ body c e h = absurd h
listed_parts here (Op.Declaration Declaration.Scope) (tree (Use at name) no_trees) body c e h = ((h.0, tt), h.1)
listed_parts here (Op.Declaration Declaration.Scope) _ body c e h = absurd h
listed_parts here (Op.Control Control.If) (tree test no_trees) body c e h = ((h.0, tt), h.1)
listed_parts here (Op.Control Control.If) _ body c e h = absurd h
listed_parts here (Op.Control Control.Else) no_trees body c e h = (tt, h)
listed_parts here (Op.Control Control.Else) _ body c e h = absurd h
listed_parts here (Op.Control Control.While) (tree test no_trees) body c e h = ((h.0, tt), h.1)
listed_parts here (Op.Control Control.While) _ body c e h = absurd h
listed_parts here (Op.Control Control.ElseIf) args body c e h = absurd (grind arith)
listed_parts here op args body c e h = absurd (grind arith)

module _ (style : IntegerStyle) where
  -- how many bytes the Else has that begins terms
  abbrev pub run_length : Trees → ℕ
  run_length (tree (Else body) rest) = length (encoded style.width style.short (Else body))
  run_length terms = 0

  abbrev all_bytes : Trees → List ℕ
  all_bytes ts = encoded_all style.width style.short ts

  -- a form that holds terms is what stands before them, and they
  container_written : (here : At) (op : Op) (args body : Trees) → is_else_if op ≡ false → holds_terms op ≡ true → IsListed (form here op args body) → head_bytes op (trees_bytes style (letters_of op) args) (length (all_bytes body)) ++ all_bytes body ≡ encoded style.width style.short (form here op args body)
  container_written here (Op.Declaration Declaration.Method) (tree (Use at name) (tree (Integer arity) no_trees)) body e c h = packed_is style (0x14 ∷ []) (name_bytes name ++ (arity % 256) ∷ []) (encoded_all style.width style.short body) (name_bytes name ++ (arity % 256) ∷ encoded_all style.width style.short body) (append_assoc (name_bytes name) ((arity % 256) ∷ []) (encoded_all style.width style.short body))
  container_written here (Op.Declaration Declaration.Method) _ body e c h = absurd h
  container_written here (Op.Declaration Declaration.Device) (tree (Use at name) no_trees) body e c h = packed_is style (0x5B ∷ 0x82 ∷ []) (name_bytes name ++ []) (encoded_all style.width style.short body) (name_bytes name ++ encoded_all style.width style.short body) (ap (λ bs. bs ++ encoded_all style.width style.short body) (append-nil (name_bytes name)))
  container_written here (Op.Declaration Declaration.Device) _ body e c h = absurd h
  container_written here (Op.Declaration Declaration.ThermalZone) (tree (Use at name) no_trees) body e c h = packed_is style (0x5B ∷ 0x85 ∷ []) (name_bytes name ++ []) (encoded_all style.width style.short body) (name_bytes name ++ encoded_all style.width style.short body) (ap (λ bs. bs ++ encoded_all style.width style.short body) (append-nil (name_bytes name)))
  container_written here (Op.Declaration Declaration.ThermalZone) _ body e c h = absurd h
  container_written here (Op.Declaration Declaration.PowerResource) (tree (Use at name) (tree (Integer level) (tree (Integer order) no_trees))) body e c h =
      packed_is style (0x5B ∷ 0x84 ∷ []) (name_bytes name ++ (little_bytes 1 level ++ (little_bytes 2 order ++ []))) (encoded_all style.width style.short body)
      (name_bytes name ++ ((little_bytes 1 level ++ (little_bytes 2 order ++ [])) ++ encoded_all style.width style.short body)) (append_assoc (name_bytes name) (little_bytes 1 level ++ (little_bytes 2 order ++ [])) (encoded_all style.width style.short body))
  container_written here (Op.Declaration Declaration.PowerResource) _ body e c h = absurd h
  container_written here (Op.Declaration Declaration.Processor) (tree (Use at name) (tree (Integer number) (tree (Integer address) (tree (Integer size) no_trees)))) body e c h =
      packed_is style (0x5B ∷ 0x83 ∷ []) (name_bytes name ++ (little_bytes 1 number ++ (little_bytes 4 address ++ (little_bytes 1 size ++ [])))) (encoded_all style.width style.short body)
      (name_bytes name ++ ((little_bytes 1 number ++ (little_bytes 4 address ++ (little_bytes 1 size ++ []))) ++ encoded_all style.width style.short body)) (append_assoc (name_bytes name) (little_bytes 1 number ++ (little_bytes 4 address ++ (little_bytes 1 size ++ []))) (encoded_all style.width style.short body))
  container_written here (Op.Declaration Declaration.Processor) _ body e c h = absurd h
  container_written here (Op.Declaration Declaration.Scope) (tree (Use at name) no_trees) body e c h = packed_is style (0x10 ∷ []) (name_bytes name ++ []) (encoded_all style.width style.short body) (name_bytes name ++ encoded_all style.width style.short body) (ap (λ bs. bs ++ encoded_all style.width style.short body) (append-nil (name_bytes name)))
  container_written here (Op.Declaration Declaration.Scope) _ body e c h = absurd h
  container_written here (Op.Control Control.If) (tree test no_trees) body e c h = packed_is style (0xA0 ∷ []) (encoded style.width style.short test ++ []) (encoded_all style.width style.short body) (encoded style.width style.short test ++ encoded_all style.width style.short body) (ap (λ bs. bs ++ encoded_all style.width style.short body) (append-nil (encoded style.width style.short test)))
  container_written here (Op.Control Control.If) _ body e c h = absurd h
  container_written here (Op.Control Control.Else) no_trees body e c h = packed_is style (0xA1 ∷ []) [] (encoded_all style.width style.short body) (encoded_all style.width style.short body) refl
  container_written here (Op.Control Control.Else) _ body e c h = absurd h
  container_written here (Op.Control Control.While) (tree test no_trees) body e c h = packed_is style (0xA2 ∷ []) (encoded style.width style.short test ++ []) (encoded_all style.width style.short body) (encoded style.width style.short test ++ encoded_all style.width style.short body) (ap (λ bs. bs ++ encoded_all style.width style.short body) (append-nil (encoded style.width style.short test)))
  container_written here (Op.Control Control.While) _ body e c h = absurd h
  container_written here (Op.Control Control.ElseIf) args body e c h = absurd (grind arith)
  container_written here op args body e c h = absurd (grind arith)

  -- which of them begin or end a run
  container_run : (here : At) (op : Op) (args body rest : Trees) (own later : ℕ) → is_else_if op ≡ false → holds_terms op ≡ true → IsListed (form here op args body) → own ≡ length (encoded style.width style.short (form here op args body)) → run_of op own later ≡ run_length (tree (form here op args body) rest)
  container_run here (Op.Declaration Declaration.Method) (tree (Use at name) (tree (Integer arity) no_trees)) body rest own later e c h s = refl
  container_run here (Op.Declaration Declaration.Method) _ body rest own later e c h s = absurd h
  container_run here (Op.Declaration Declaration.Device) (tree (Use at name) no_trees) body rest own later e c h s = refl
  container_run here (Op.Declaration Declaration.Device) _ body rest own later e c h s = absurd h
  container_run here (Op.Declaration Declaration.ThermalZone) (tree (Use at name) no_trees) body rest own later e c h s = refl
  container_run here (Op.Declaration Declaration.ThermalZone) _ body rest own later e c h s = absurd h
  container_run here (Op.Declaration Declaration.PowerResource) (tree (Use at name) (tree (Integer level) (tree (Integer order) no_trees))) body rest own later e c h s = refl
  container_run here (Op.Declaration Declaration.PowerResource) _ body rest own later e c h s = absurd h
  container_run here (Op.Declaration Declaration.Processor) (tree (Use at name) (tree (Integer number) (tree (Integer address) (tree (Integer size) no_trees)))) body rest own later e c h s = refl
  container_run here (Op.Declaration Declaration.Processor) _ body rest own later e c h s = absurd h
  container_run here (Op.Declaration Declaration.Scope) (tree (Use at name) no_trees) body rest own later e c h s = refl
  container_run here (Op.Declaration Declaration.Scope) _ body rest own later e c h s = absurd h
  container_run here (Op.Control Control.If) (tree test no_trees) body rest own later e c h s = refl
  container_run here (Op.Control Control.If) _ body rest own later e c h s = absurd h
  container_run here (Op.Control Control.Else) no_trees body rest own later e c h s = s
  container_run here (Op.Control Control.Else) _ body rest own later e c h s = absurd h
  container_run here (Op.Control Control.While) (tree test no_trees) body rest own later e c h s = refl
  container_run here (Op.Control Control.While) _ body rest own later e c h s = absurd h
  container_run here (Op.Control Control.ElseIf) args body rest own later e c h s = absurd (grind arith)
  container_run here op args body rest own later e c h s = absurd (grind arith)

  alone_run : (t : Tree) (rest : Trees) → holds t ≡ false → run_length (tree t rest) ≡ 0
  alone_run (Else body) rest e = absurd (grind arith)
  alone_run t rest e = refl

  pub none_run : (op : Op) (own later : ℕ) → holds_terms op ≡ false → run_of op own later ≡ 0
  none_run (Op.Control Control.ElseIf) own later e = absurd (grind arith)
  none_run (Op.Control Control.Else) own later e = absurd (grind arith)
  none_run op own later e = refl

  -- an Else whose terms have these bytes
  else_written : (inner : Trees) (bytes : List ℕ) (size : ℕ) → bytes ≡ all_bytes inner → size ≡ length bytes → head_bytes (Op.Control Control.Else) [] size ++ bytes ≡ encoded style.width style.short (Else inner)
  else_written inner bytes size e s =
      ap (λ n. head_bytes (Op.Control Control.Else) [] n ++ bytes) s
      ∙ packed_is style (0xA1 ∷ []) [] bytes bytes refl ∙ ap (λ bs. 0xA1 ∷ packed bs) e

  if_written : (test : Tree) (body : Trees) → head_bytes (Op.Control Control.If) (encoded style.width style.short test) (length (all_bytes body)) ++ all_bytes body ≡ encoded style.width style.short (If test body)
  if_written test body = packed_is style (0xA0 ∷ []) (encoded style.width style.short test) (all_bytes body) (encoded style.width style.short test ++ all_bytes body) refl

  -- an ElseIf with the run behind it
  module _ (test : Tree) (body : Trees) where
    abbrev own_of : ℕ → List ℕ
    own_of later = else_if_head (encoded style.width style.short test) (length (all_bytes body)) later ++ all_bytes body

    else_if_with : (inner : Trees) (behind : List ℕ) (later : ℕ) → encoded style.width style.short (If test body) ++ behind ≡ all_bytes inner → later ≡ length behind → own_of later ++ behind ≡ encoded style.width style.short (Else inner)
    else_if_with inner behind later e s =
        let content = all_bytes body in
        let first = head_bytes (Op.Control Control.If) (encoded style.width style.short test) (length content) in
        let whole = encoded style.width style.short (If test body) in
        let head = head_bytes (Op.Control Control.Else) [] (length first + length content + later) in
        let size : length first + length content + later ≡ length (whole ++ behind) =
        (let a = ap length (if_written test body) in let b = length-append first content in let d = length-append whole behind in omega (arith, a, b, d, s)) in
        ap (λ bs. bs ++ behind) (append_assoc head first content)
        ∙ append_assoc head (first ++ content) behind
        ∙ ap (λ bs. head ++ (bs ++ behind)) (if_written test body)
        ∙ else_written inner (whole ++ behind) (length first + length content + later) e size

    pub else_if_is : (rest : Trees) → own_of (run_length rest) ++ all_bytes rest ≡ all_bytes (before (ElseIf test body) rest)
    else_if_is (tree (Else other) rest) =
        let behind = encoded style.width style.short (Else other) in
        sym (append_assoc (own_of (length behind)) behind (all_bytes rest))
        ∙ ap (λ bs. bs ++ all_bytes rest) (else_if_with (tree (If test body) (tree (Else other) no_trees)) behind (length behind) (ap (λ bs. encoded style.width style.short (If test body) ++ bs) (sym (append-nil behind))) refl)
    else_if_is rest = ap (λ bs. bs ++ all_bytes rest) (sym (append-nil (own_of 0)) ∙ else_if_with (tree (If test body) no_trees) [] 0 refl refl)

    pub else_if_run : (rest : Trees) → length (own_of (run_length rest)) + run_length rest ≡ run_length (before (ElseIf test body) rest)
    else_if_run (tree (Else other) rest) =
        let behind = encoded style.width style.short (Else other) in
        sym (length-append (own_of (length behind)) behind)
        ∙ ap length (else_if_with (tree (If test body) (tree (Else other) no_trees)) behind (length behind) (ap (λ bs. encoded style.width style.short (If test body) ++ bs) (sym (append-nil behind))) refl)
    else_if_run rest =
        let l = length-append (own_of 0) [] in
        let w = ap length (else_if_with (tree (If test body) no_trees) [] 0 refl refl) in
        let same : length (own_of 0) + 0 ≡ length (own_of 0 ++ []) = omega (arith, l) in same ∙ w

  -- ---- a term of a list before those behind it, by the bytes of its parts

  -- the bytes that stand first, and how many of them a run has
  abbrev pub Begins : Op → List ℕ → ℕ → Trees → Trees → Type 0
  Begins op own later rest whole = (own ++ all_bytes rest ≡ all_bytes whole) × (run_of op (length own) later ≡ run_length whole)

  module _ (at : At) (op : Op) (args body rest : Trees) (front content whole : List ℕ) (later : ℕ) (behind : later ≡ run_length rest)
      (fronts : AreWhole args → front ≡ trees_bytes style (letters_of op) args) (contents : AreListed (nested_all body) → content ≡ all_bytes (nested_all body)) (wholes : IsWhole (form at op args body) → whole ≡ encoded style.width style.short (form at op args body))
      (h : AreListed (before (nested_in (form at op args body)) rest)) where
    listed_step : holds_terms op ≡ true → is_else_if op ≡ false → Begins op (own_head op front (length content) later ++ content) later rest (before (nested_in (form at op args body)) rest)
    listed_step c e =
        let inner = nested_all body in
        let made = form at op args inner in
        let is = listed_before at op args body rest c e h in
        let listed : IsListed made = (subst AreListed is h).0 in
        let parts = listed_parts at op args inner c e listed in
        let own : own_head op front (length content) later ++ content ≡ encoded style.width style.short made =
        ap (λ bs. bs ++ content) (one_head op front (length content) later e)
        ∙ ap (λ bs. head_bytes op front (length bs) ++ bs) (contents parts.1)
        ∙ ap (λ bs. head_bytes op bs (length (all_bytes inner)) ++ all_bytes inner) (fronts parts.0)
        ∙ container_written at op args inner e c listed in
        (ap (λ bs. bs ++ all_bytes rest) own ∙ ap all_bytes (sym is), container_run at op args inner rest _ later e c listed (ap length own) ∙ ap run_length (sym is))

    alone_step : holds_terms op ≡ false → Begins op whole later rest (before (nested_in (form at op args body)) rest)
    alone_step c =
        let made = form at op args body in
        let none = form_holds at op args body c in
        let is = alone_before made rest none h in
        (ap (λ bs. bs ++ all_bytes rest) (wholes is.1) ∙ ap all_bytes (sym is.0), none_run op (length whole) later c ∙ sym (alone_run made rest none) ∙ ap run_length (sym is.0))

  -- an ElseIf
  else_if_step : (at : At) (test : Tree) (body rest : Trees) (front content : List ℕ) (later : ℕ) → later ≡ run_length rest → (AreWhole (tree test no_trees) → front ≡ trees_bytes style [] (tree test no_trees)) → (AreListed (nested_all body) → content ≡ all_bytes (nested_all body))
      → AreListed (before (ElseIf (nested_in test) (nested_all body)) rest) → Begins (Op.Control Control.ElseIf) (else_if_head front (length content) later ++ content) later rest (before (ElseIf (nested_in test) (nested_all body)) rest)
  else_if_step at test body rest front content later behind fronts contents h =
      let parts = else_if_listed (nested_in test) (nested_all body) rest h in
      let same = unnested test parts.0.0 in
      let front_is : front ≡ encoded style.width style.short (nested_in test) = fronts (subst IsWhole same parts.0.0, tt) ∙ append-nil (encoded style.width style.short test) ∙ ap (encoded style.width style.short) (sym same) in
      let own : else_if_head front (length content) later ++ content ≡ own_of (nested_in test) (nested_all body) (run_length rest) =
      ap (λ bs. else_if_head bs (length content) later ++ content) front_is
      ∙ ap (λ bs. else_if_head (encoded style.width style.short (nested_in test)) (length bs) later ++ bs) (contents parts.0.1)
      ∙ ap (own_of (nested_in test) (nested_all body)) behind in (
        ap (λ bs. bs ++ all_bytes rest) own ∙ else_if_is (nested_in test) (nested_all body) rest,
        ap (λ n. length (else_if_head front (length content) later ++ content) + n) behind ∙ ap (λ bs. length bs + run_length rest) own ∙ else_if_run (nested_in test) (nested_all body) rest,
      )

  else_ifs : (at : At) (args body rest : Trees) (front content : List ℕ) (later : ℕ) → later ≡ run_length rest → (AreWhole args → front ≡ trees_bytes style [] args) → (AreListed (nested_all body) → content ≡ all_bytes (nested_all body))
      → AreListed (before (nested_in (form at (Op.Control Control.ElseIf) args body)) rest) → Begins (Op.Control Control.ElseIf) (else_if_head front (length content) later ++ content) later rest (before (nested_in (form at (Op.Control Control.ElseIf) args body)) rest)
  else_ifs at (tree test no_trees) body rest front content later behind fronts contents h = else_if_step at test body rest front content later behind fronts contents h
  else_ifs at _ body rest front content later behind fronts contents h = absurd h.0

  other_step : (at : At) (op : Op) (args body rest : Trees) (front content whole : List ℕ) (later : ℕ) → later ≡ run_length rest → (AreWhole args → front ≡ trees_bytes style (letters_of op) args) → (AreListed (nested_all body) → content ≡ all_bytes (nested_all body))
      → (IsWhole (form at op args body) → whole ≡ encoded style.width style.short (form at op args body)) → AreListed (before (nested_in (form at op args body)) rest) → is_else_if op ≡ false
      → Begins op (if holds_terms op then own_head op front (length content) later ++ content else whole) later rest (before (nested_in (form at op args body)) rest)
  other_step at op args body rest front content whole later behind fronts contents wholes h e = by_holds (holds_terms op) refl
    where
      by_holds : (c : Bool) → holds_terms op ≡ c → Begins op (if c then own_head op front (length content) later ++ content else whole) later rest (before (nested_in (form at op args body)) rest)
      by_holds true c = listed_step at op args body rest front content whole later behind fronts contents wholes h c e
      by_holds false c = alone_step at op args body rest front content whole later behind fronts contents wholes h c

  -- a form
  pub form_step : (at : At) (op : Op) (args body rest : Trees) (front content whole : List ℕ) (later : ℕ) → later ≡ run_length rest → (AreWhole args → front ≡ trees_bytes style (letters_of op) args) → (AreListed (nested_all body) → content ≡ all_bytes (nested_all body))
      → (IsWhole (form at op args body) → whole ≡ encoded style.width style.short (form at op args body)) → AreListed (before (nested_in (form at op args body)) rest)
      → Begins op (if holds_terms op then own_head op front (length content) later ++ content else whole) later rest (before (nested_in (form at op args body)) rest)
  form_step at (Op.Control Control.ElseIf) args body rest front content whole later behind fronts contents wholes h = else_ifs at args body rest front content later behind fronts contents h
  form_step at op args body rest front content whole later behind fronts contents wholes h = other_step at op args body rest front content whole later behind fronts contents wholes h refl

  -- a term that is no form
  pub alone_begins : (t : Tree) (rest : Trees) (own : List ℕ) → holds t ≡ false → (IsWhole t → own ≡ encoded style.width style.short t) → AreListed (before (nested_in t) rest) → (own ++ all_bytes rest ≡ all_bytes (before (nested_in t) rest)) × (0 ≡ run_length (before (nested_in t) rest))
  alone_begins t rest own e f h =
      let is = alone_before t rest e h in
      (ap (λ bs. bs ++ all_bytes rest) (f is.1) ∙ ap all_bytes (sym is.0), sym (alone_run t rest e) ∙ ap run_length (sym is.0))
