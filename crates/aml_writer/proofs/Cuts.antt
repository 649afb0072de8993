-- The parts of a table, one after another, are the table.
use Rattle.std.proofs.Common.{◌≡◌, ℕ, ◌+◌, ◌%◌, Bool, List, [], ◌∷◌, ◌++◌, length, refl, sym, ap, ◌∙◌, arith, append_assoc, length-append}
use Rattle.std.proofs.lemmas.List.{append-nil}
use Rattle.acpi_values.specs.declared.width.Width.{Width}
use Rattle.acpi_values.specs.Revisions.{width_of}
use Rattle.asl_tree.specs.declared.term.Control.TheVariants as Control
use Rattle.asl_tree.specs.declared.term.Op.{Op}
use Rattle.asl_tree.specs.Tree.{Tree, Method, Container', Scope, If, ElseIf, Else, While, Trees, no_trees, tree}
use Rattle.else_runs.specs.Runs.{before, nested_in, nested_all}
use Rattle.aml_code.specs.Encoding.{package_length_bytes, packed, name_bytes}
use Rattle.aml_code.specs.Header.{HeaderFields, table_bytes}
use Rattle.aml_meaning.specs.Codes.{Code, MethodCode, ScopeCode, IfCode, ElseCode, WhileCode, code_bytes}
use Rattle.aml_meaning.specs.Encoded.{container_code, container_bytes, encoded, encoded_all, encoded_terms}
use Rattle.aml_sizes.specs.declared.style.IntegerStyle.{IntegerStyle}
use Rattle.aml_sizes.specs.TermBytes.{head_bytes}
use Rattle.aml_sizes.specs.TermLists.{else_if_head}
use Rattle.aml_sizes.proofs.Runs as R
use Rattle.aml_writer.specs.Cuts.{opening_of, opening, operand, else_length, run_length, cut, cut_all, header_of, table_parts}

-- the bytes of parts, one after another
abbrev pub joined_parts : List (List ℕ) → List ℕ
joined_parts [] = []
joined_parts (part ∷ parts) = part ++ joined_parts parts

parts-append : (xs ys : List (List ℕ)) → joined_parts (xs ++ ys) ≡ joined_parts xs ++ joined_parts ys
parts-append [] ys = refl
parts-append (x ∷ xs) ys = ap (λ bs. x ++ bs) (parts-append xs ys) ∙ sym (append_assoc x (joined_parts xs) (joined_parts ys))

module _ (width : Width) (short : Bool) where
  -- the Else that stands first
  pub else_length_is : (ts : Trees) → R.run_length (record { width = width; short = short }) ts ≡ else_length width short ts
  else_length_is (tree (Else body) rest) = refl
  else_length_is ts = refl

  -- an ElseIf up to its terms
  pub else_if_opening : (front : List ℕ) (size later : ℕ) → else_if_head front size later ≡ opening_of ElseCode (opening_of IfCode front size) (size + later)
  else_if_opening front size later =
      let first = opening_of IfCode front size in
      let same : length {A = ℕ} [] + (length first + size + later) ≡ length first + (size + later) = omega arith in
      ap (λ n. (0xA1 ∷ (package_length_bytes n ++ [])) ++ first) same
      ∙ ap (λ bs. (0xA1 ∷ bs) ++ first) (append-nil (package_length_bytes (length first + (size + later))))

  opened_is : (code : Code) (front content : List ℕ) (body : Trees) → content ≡ encoded_terms width short body → opening width short code front body ++ content ≡ code_bytes code ++ packed (front ++ encoded_terms width short body)
  opened_is code front content body e =
      let bytes = encoded_terms width short body in
      let head = package_length_bytes (length front + length bytes) in
      ap (λ bs. opening width short code front body ++ bs) e
      ∙ append_assoc (code_bytes code) (head ++ front) bytes
      ∙ ap (λ bs. code_bytes code ++ bs) (append_assoc head front bytes ∙ ap (λ n. package_length_bytes n ++ (front ++ bytes)) (sym (length-append front bytes)))

  abbrev before_rest : Trees → List ℕ → List ℕ
  before_rest rest bytes = bytes ++ encoded_all width short rest

  mutual
    -- a term before others whose runs are nested
    cut_is : (later : ℕ) (t : Tree) (rest : Trees) → later ≡ else_length width short rest → joined_parts (cut width short later t) ++ encoded_all width short rest ≡ encoded_all width short (before (nested_in t) rest)
    cut_is later (Method at name flags body) rest e =
        ap (before_rest rest) (opened_is MethodCode (name_bytes name ++ (flags % 256) ∷ []) (joined_parts (cut_all width short body)) body (cuts_are body) ∙ ap (λ bs. code_bytes MethodCode ++ packed bs) (append_assoc (name_bytes name) ((flags % 256) ∷ []) (encoded_terms width short body)))
    cut_is later (Container' kind at name body) rest e =
        ap (before_rest rest) (opened_is (container_code kind) (name_bytes name ++ container_bytes kind) (joined_parts (cut_all width short body)) body (cuts_are body) ∙ ap (λ bs. code_bytes (container_code kind) ++ packed bs) (append_assoc (name_bytes name) (container_bytes kind) (encoded_terms width short body)))
    cut_is later (Scope here at name body) rest e = ap (before_rest rest) (opened_is ScopeCode (name_bytes name) (joined_parts (cut_all width short body)) body (cuts_are body))
    cut_is later (If test body) rest e = ap (before_rest rest) (opened_is IfCode (operand width short test) (joined_parts (cut_all width short body)) body (cuts_are body))
    cut_is later (ElseIf test body) rest e =
        let style : IntegerStyle = record { width = width; short = short } in
        let front = operand width short test in
        let content = encoded_terms width short body in
        ap (λ bs. (opening_of ElseCode (opening width short IfCode front body) (length content + later) ++ bs) ++ encoded_all width short rest) (cuts_are body)
        ∙ ap (λ bs. (bs ++ content) ++ encoded_all width short rest) (sym (else_if_opening front (length content) later))
        ∙ ap (λ n. (else_if_head front (length content) n ++ content) ++ encoded_all width short rest) (e ∙ sym (else_length_is rest))
        ∙ R.else_if_is style (nested_in test) (nested_all body) rest
    cut_is later (Else body) rest e = ap (before_rest rest) (opened_is ElseCode [] (joined_parts (cut_all width short body)) body (cuts_are body))
    cut_is later (While test body) rest e = ap (before_rest rest) (opened_is WhileCode (operand width short test) (joined_parts (cut_all width short body)) body (cuts_are body))
    cut_is later t rest e = ap (before_rest rest) (append-nil (operand width short t))

    pub cuts_are : (ts : Trees) → joined_parts (cut_all width short ts) ≡ encoded_terms width short ts
    cuts_are no_trees = refl
    cuts_are (tree t ts) =
        parts-append (cut width short (run_length width short ts) t) (cut_all width short ts)
        ∙ ap (λ bs. joined_parts (cut width short (run_length width short ts) t) ++ bs) (cuts_are ts)
        ∙ cut_is (run_length width short ts) t (nested_all ts) refl

-- the parts of a table, one after another, are the table
pub parts_are : (fields : HeaderFields) (short : Bool) (core : Trees) → joined_parts (table_parts fields short core) ≡ table_bytes fields (encoded_terms (width_of fields.revision) short core)
parts_are fields short core =
    let content = encoded_terms (width_of fields.revision) short core in
    ap (λ bs. header_of fields content ++ bs) (cuts_are (width_of fields.revision) short core)
