-- What is told of the readers of imports, modules and files.
use Rattle.std.proofs.Common.{◌≡◌, ℕ, zero, suc, ◌+◌, ◌<◌, ◌≤◌, nat_le, Bool, true, false, ◌&&◌, List, []}
use Rattle.std.proofs.Common.{◌∷◌, ◌++◌, length, map, drop, Option, Some, None, Ok, refl, sym, ap, ◌∙◌, subst}
use Rattle.std.proofs.Common.{arith, inl, inr, cond, append_assoc, length-append}
use Rattle.std.specs.List.{flat_map, list_all}
use Rattle.std.proofs.lemmas.Bool.{and_parts, le-leb}
use Rattle.std.proofs.lemmas.List.{append-nil}
use Rattle.au_base.specs.declared.places.Pos.{Pos}
use Rattle.au_base.specs.declared.tokens.Keyword.TheVariants.{KwModule, KwBody, KwIs, KwEnd, KwImport}
use Rattle.au_base.specs.declared.tokens.Keyword.TheVariants.{KwPragma}
use Rattle.au_base.specs.declared.tokens.Sign.TheVariants.{LeftParenthesis, RightParenthesis, Comma}
use Rattle.au_base.specs.declared.tokens.Sign.TheVariants.{Semicolon, Dot}
use Rattle.au_base.specs.declared.tokens.Token.{Token}
use Rattle.au_base.specs.declared.tokens.What.TheVariants.{Word, Sign, Name}
use Rattle.au_syntax.specs.declared.modules.Part.{Part}
use Rattle.au_syntax.specs.declared.modules.Part.TheVariants.{Interface, Body}
use Rattle.au_syntax.specs.Forms.{some, formed_declaration, formed_import, formed_module}
use Rattle.au_syntax.specs.Modules.{Importing, constant, opaque_type, record_type, union_type, function}
use Rattle.au_syntax.specs.Modules.{class, instance, constant_body, function_body, instance_body}
use Rattle.au_syntax.specs.Names.{Placed, Renaming}
use Rattle.au_syntax.specs.Plain.{Bytes, PlainDeclaration, PlainModule}
use Rattle.au_syntax.specs.Words.{Printed, word, mark, name_words, renaming_words, part_words, pragma_words}
use Rattle.au_parser.specs.Measures as measures
use Rattle.au_parser.specs.Measures.{Measured, Measures, plains, begun, module_name_measures}
use Rattle.au_parser.specs.Measures.{import_measures, declaration_measures}
use Rattle.au_parser.specs.Passing.{passed_by, Keep, of_bytes}
use Rattle.au_read_expressions.specs.declared.faults.Fault.TheVariants.{Passed}
use Rattle.au_read_expressions.specs.Bounds.{Bounds, bytes_limit}
use Rattle.au_read_expressions.specs.Reading.{Read, ◌>>=◌, front, is_front, same_what, name_at, read_of}
use Rattle.au_read_expressions.specs.Reading.{exactly, behind_tokens, closed, pair, built, before_all}
use Rattle.au_read_expressions.specs.Reading.{repeated, listed, name_of, value_or_no}
use Rattle.au_read_expressions.specs.Spelling.{fixed}
use Rattle.au_read_expressions.proofs.Steps.{same_is}
use Rattle.au_read_statements.specs.StatementReading.{renaming_at}
use Rattle.au_parser.specs.DeclarationReading.{begins_declaration, declaration_at}
use Rattle.au_parser.specs.ModuleReading.{name_step, names_within, module_name_at, importing_of, import_at}
use Rattle.au_parser.specs.ModuleReading.{imports_at, pragma_whats, pragma_of, pragma_at, ModuleParts}
use Rattle.au_parser.specs.ModuleReading.{parts_of, part_whats, end_whats, part_by, module_of, parts_with}
use Rattle.au_parser.specs.ModuleReading.{parts_at, module_at, ending, ended, file_at}
use Rattle.au_parser.proofs.Told.{Passing, AreMeasured, signs, Kind, Is, Example, Tells, Past, Alike}
use Rattle.au_parser.proofs.Told.{Agrees, Honest, Carries, Extends, Grows, fault_of, are_join}
use Rattle.au_parser.proofs.Told.{keep_join, keep_over, keep_plains, built_tells, bind_tells, past_more}
use Rattle.au_parser.proofs.Told.{tells_past, bind_past, past_alike, bind_alike, agree_same}
use Rattle.au_parser.proofs.Told.{agrees_empty, agrees_is, agrees_longer, bind_agrees, built_alike}
use Rattle.au_parser.proofs.Told.{built_agrees, built_extends, tells_good, tells_cut}
use Rattle.au_parser.proofs.Ways.{light, kind_honest, no_tells, no_alike, none_honest, behind_kind}
use Rattle.au_parser.proofs.Ways.{closed_kind, pair_kind, behind_honest, closed_honest, pair_honest}
use Rattle.au_parser.proofs.Ways.{shaped_honest, built_honest}
use Rattle.au_parser.proofs.FirstTokens.{First, test_honest, second_honest, or_passed_past}
use Rattle.au_parser.proofs.FirstTokens.{or_passed_alike}
use Rattle.au_parser.proofs.Lists.{separated_kind, separated_honest, repeated_kind, repeated_honest}
use Rattle.au_parser.proofs.Lists.{not_longer}
use Rattle.au_parser.proofs.Single.{name_kind, name_honest, name_means, name_example, exactly_kind}
use Rattle.au_parser.proofs.Single.{exactly_honest}
use Rattle.au_parser.proofs.Levels.{tests, passing}
use Rattle.au_parser.proofs.Rows.{pair_behind, Row, behind_row}
use Rattle.au_parser.proofs.StatementParts.{renaming_kind, renaming_honest}
use Rattle.au_parser.proofs.DeclarationReaders.{declaration_kind, declaration_honest}

-- ---- a module's name, which keeps the limit of its bytes

abbrev Names : Type 0
Names = List (Placed Bytes)

-- a name up to which the module's has so many bytes
abbrev name_bytes : ℕ → Placed Bytes → Measures
name_bytes k x = map (λ (w : Printed). record { word = w; level = 0; depth = 0; nodes = 0; bytes = k; before = 0 }) (name_words x)

-- a module's name, where so many bytes of it stand before
abbrev names_kind : ℕ → Kind Names
names_kind used = record { words = module_name_measures used; good = some }

single : (x : Placed Bytes) (t : Token) (k : ℕ) → name_of t.what t.at ≡ Some x → AreMeasured (name_bytes k x) (t ∷ [])
single x t k e = (name_means t.what t x refl e).words

one_is : (x : Placed Bytes) (t : Token) (used : ℕ) → name_of t.what t.at ≡ Some x →
    Is (names_kind used) (x ∷ []) (t ∷ [])
one_is x t used e = record { words = single x t (used + length x.name) e; good = refl }

names_example : (used : ℕ) → Example (names_kind used)
names_example used = record {
  tree = name_example.tree ∷ [];
  tokens = name_example.tokens;
  is = record { words = name_example.is.words; good = refl };
}

-- a name and a dot before others
abbrev with_dot : ℕ → Placed Bytes → Measures
with_dot used x = name_bytes (used + length x.name) x ++ plains (mark Dot)

more_names : (used : ℕ) (x : Placed Bytes) → Carries (names_kind (used + length x.name + 1)) (names_kind used)
    (with_dot used x) (λ xs. x ∷ xs)
more_names used x = record { words = line; good = λ xs g. refl }
  where
    line : (xs : Names) → some xs ≡ true → module_name_measures used (x ∷ xs)
        ≡ with_dot used x ++ module_name_measures (used + length x.name + 1) xs
    line [] g = absurd (let wrong = g in cc)
    line (y ∷ ys) g = refl

names_extend : (used : ℕ) (x : Placed Bytes) (xs : Names) → Extends (name_bytes (used + length x.name) x)
    (module_name_measures used (x ∷ xs))
names_extend used x [] = ([], inl (sym (append-nil (name_bytes (used + length x.name) x))))
names_extend used x (y ∷ ys) = (
  plains (mark Dot) ++ module_name_measures (used + length x.name + 1) (y ∷ ys),
  inl (append_assoc (name_bytes (used + length x.name) x) (plains (mark Dot))
      (module_name_measures (used + length x.name + 1) (y ∷ ys))),
)

module _ (b : Bounds) where
  abbrev P : Passing
  P = passing b b.nesting

  bytes_test : (k : ℕ) (w : Printed) → passed_by b b.nesting (record
      { word = w; level = 0; depth = 0; nodes = 0; bytes = k; before = 0 }) ≡ tests 0 true true true (nat_le k b.bytes)
  bytes_test k w =
      ap (λ v. tests 0 v (nat_le 0 b.depth) (nat_le 0 b.nodes) (nat_le k b.bytes)) (le-leb 0 b.nesting (omega arith))
      ∙ ap (λ v. tests 0 true v (nat_le 0 b.nodes) (nat_le k b.bytes)) (le-leb 0 b.depth (omega arith))
      ∙ ap (λ v. tests 0 true true v (nat_le k b.bytes)) (le-leb 0 b.nodes (omega arith))

  bytes_keep : (k : ℕ) (x : Placed Bytes) → nat_le k b.bytes ≡ true → Keep P.of (name_bytes k x)
  bytes_keep k x e =
      (bytes_test k (record { what = Name x.name; places = x.at ∷ [] }) ∙ ap (λ v. tests 0 true true true v) e, tt)

  -- what stands behind a name, where its bytes are within the limit
  abbrev goes_on : (List Token → Read Names) → Placed Bytes → List Token → Read Names
  goes_on others x ts = cond (is_front (Sign Dot) (front ts)) (others (drop 1 ts) >>= before_all x)
      (read_of (x ∷ []) ts)

  dot_are : (used : ℕ) (x : Placed Bytes) (t u : Token) → name_of t.what t.at ≡ Some x → u.what ≡ Sign Dot →
      AreMeasured (with_dot used x) (t ∷ u ∷ [])
  dot_are used x t u is e =
      are_join (name_bytes (used + length x.name) x) (plains (mark Dot)) (t ∷ []) (u ∷ [])
      (single x t (used + length x.name) is) ((e, tt), tt)

  dot_by : (others : List Token → Read Names) (used : ℕ) (x : Placed Bytes) (t u : Token) (rest : List Token)
      → ((vs : List Token) → Tells P (names_kind (used + length x.name + 1)) vs (others vs)) →
      name_of t.what t.at ≡ Some x → Keep P.of (name_bytes (used + length x.name) x)
      → (v : Bool) → same_what u.what (Sign Dot) ≡ v
      → Tells P (names_kind used) (t ∷ u ∷ rest) (cond v (others rest >>= before_all x) (read_of (x ∷ []) (u ∷ rest)))
  dot_by others used x t u rest all is keep true e =
      built_tells P (names_kind (used + length x.name + 1)) (names_kind used) (t ∷ u ∷ []) (t ∷ u ∷ rest) rest refl
      (with_dot used x) (dot_are used x t u is (same_is u.what (Sign Dot) e))
      (keep_join P.of (name_bytes (used + length x.name) x) (plains (mark Dot)) keep (keep_plains P (mark Dot)))
      (λ xs. x ∷ xs) (more_names used x) (others rest) (all rest)
  dot_by others used x t u rest all is keep false e =
      record { front = t ∷ []; same = refl; is = one_is x t used is; keeps = keep }

  dot_tells : (others : List Token → Read Names) (used : ℕ) (x : Placed Bytes) (t : Token) (rest : List Token)
      → ((vs : List Token) → Tells P (names_kind (used + length x.name + 1)) vs (others vs)) →
      name_of t.what t.at ≡ Some x → Keep P.of (name_bytes (used + length x.name) x)
      → Tells P (names_kind used) (t ∷ rest) (goes_on others x rest)
  dot_tells others used x t [] all is keep =
      record { front = t ∷ []; same = refl; is = one_is x t used is; keeps = keep }
  dot_tells others used x t (u ∷ rest) all is keep =
      dot_by others used x t u rest all is keep (same_what u.what (Sign Dot)) refl

  -- with the name with which there are too many bytes, the limit is passed
  bytes_tells : (used : ℕ) (x : Placed Bytes) (t : Token) (rest : List Token) (r : Read Names) →
      name_of t.what t.at ≡ Some x → (v : Bool) → nat_le (used + length x.name) b.bytes ≡ v
      → (v ≡ true → Tells P (names_kind used) (t ∷ rest) r)
      → Tells P (names_kind used) (t ∷ rest) (cond v r (fault_of (Passed (bytes_limit b) (length rest))))
  bytes_tells used x t rest r is true e on = on refl
  bytes_tells used x t rest r is false e on = record {
    front = [];
    last = t;
    back = rest;
    same = refl;
    what = of_bytes;
    told = refl;
    rest = [];
    tree = x ∷ [];
    is = one_is x t used is;
    passes = bytes_test (used + length x.name) (record { what = Name x.name; places = x.at ∷ [] })
        ∙ ap (λ v. tests 0 true true true v) e;
  }

  module _ (k : ℕ) (all : (used : ℕ) (vs : List Token) → Tells P (names_kind used) vs (names_within b k used vs)) where
    names_value : (used : ℕ) (t : Token) (rest : List Token) (v : Option (Placed Bytes)) → name_of t.what t.at ≡ v →
        Tells P (names_kind used) (t ∷ rest) (value_or_no (t ∷ rest) v >>= name_step b (names_within b k) used)
    names_value used t rest None e = no_tells P (names_kind used) (names_example used) (t ∷ rest)
    names_value used t rest (Some x) e =
        let few : ℕ = used + length x.name in
        bytes_tells used x t rest (goes_on (names_within b k (few + 1)) x rest) e (nat_le few b.bytes) refl
        (λ h. dot_tells (names_within b k (few + 1)) used x t rest (all (few + 1)) e
        (bytes_keep few x h))

  names_tells : (k used : ℕ) (ts : List Token) → Tells P (names_kind used) ts (names_within b k used ts)
  names_tells zero used ts = no_tells P (names_kind used) (names_example used) ts
  names_tells (suc k) used [] = no_tells P (names_kind used) (names_example used) []
  names_tells (suc k) used (t ∷ rest) = names_value k (names_tells k) used t rest (name_of t.what t.at) refl

  names_past : (k used : ℕ) (ts : List Token) → Past (length ts) (names_within b k used ts)
  names_past k used ts = tells_past P (names_kind used) ts (names_within b k used ts) (names_tells k used ts)

  dot_past_by : (k used : ℕ) (x : Placed Bytes) (t : Token) (rest : List Token) (v : Bool)
      → Past (suc (length rest)) (cond v (names_within b k used rest >>= before_all x) (read_of (x ∷ []) (t ∷ rest)))
  dot_past_by k used x t rest true =
      past_more (length rest) (suc (length rest)) (names_within b k used rest >>= before_all x) (omega arith)
      (bind_past (length rest) (before_all x) (λ y. omega arith) (names_within b k used rest) (names_past k used rest))
  dot_past_by k used x t rest false = omega arith

  dot_past : (k used : ℕ) (x : Placed Bytes) (rest : List Token) → Past (length rest)
      (goes_on (names_within b k used) x rest)
  dot_past k used x [] = omega arith
  dot_past k used x (t ∷ rest) = dot_past_by k used x t rest (same_what t.what (Sign Dot))

  step_past_of : (k used : ℕ) (x : Placed Bytes) (rest : List Token)
      → Past (length rest) (name_step b (names_within b k) used (x, rest))
  step_past_of k used x rest =
      or_passed_past (length rest) (length rest) (bytes_limit b)
      (goes_on (names_within b k (used + length x.name + 1)) x rest)
      (dot_past k (used + length x.name + 1) x rest) (nat_le (used + length x.name) b.bytes)

  step_past : (k used : ℕ) (x : Placed Bytes × List Token) → Past (length x.1) (name_step b (names_within b k) used x)
  step_past k used x = step_past_of k used x.0 x.1

  dot_alike_by : (k j used : ℕ) (x : Placed Bytes) (t : Token) (q c d : List Token)
      → Alike c d (names_within b k used (q ++ c)) (names_within b j used (q ++ d)) → (v : Bool)
      → Alike c d (cond v (names_within b k used (q ++ c) >>= before_all x) (read_of (x ∷ []) (t ∷ q ++ c)))
      (cond v (names_within b j used (q ++ d) >>= before_all x) (read_of (x ∷ []) (t ∷ q ++ d)))
  dot_alike_by k j used x t q c d on true =
      built_alike c d (λ xs. x ∷ xs) (names_within b k used (q ++ c)) (names_within b j used (q ++ d)) on
  dot_alike_by k j used x t q c d on false = inr (record { between = t ∷ q; same = refl; there = refl })

  dot_alike : (k j used : ℕ) (x : Placed Bytes) (q c d : List Token)
      → ((r : List Token) → length (r ++ c) ≤ k → length (r ++ d) ≤ j
      → Alike c d (names_within b k used (r ++ c)) (names_within b j used (r ++ d)))
      → length (q ++ c) ≤ suc k → length (q ++ d) ≤ suc j
      → Alike c d (goes_on (names_within b k used) x (q ++ c)) (goes_on (names_within b j used) x (q ++ d))
  dot_alike k j used x [] c d on h i =
      past_alike c d (goes_on (names_within b j used) x d) (goes_on (names_within b k used) x c) (dot_past k used x c)
  dot_alike k j used x (t ∷ q) c d on h i =
      dot_alike_by k j used x t q c d (on q (omega (arith, h)) (omega (arith, i))) (same_what t.what (Sign Dot))

  names_alike : (k j used : ℕ) (p c d : List Token) → length (p ++ c) ≤ k → length (p ++ d) ≤ j →
      Alike c d (names_within b k used (p ++ c)) (names_within b j used (p ++ d))
  names_alike k j used [] c d h i = past_alike c d (names_within b j used d) (names_within b k used c)
      (names_past k used c)
  names_alike zero j used (t ∷ p) c d h i = absurd (let wrong : ⊥ = omega (arith, h) in wrong)
  names_alike (suc k) zero used (t ∷ p) c d h i = absurd (let wrong : ⊥ = omega (arith, i) in wrong)
  names_alike (suc k) (suc j) used (t ∷ p) c d h i =
      bind_alike c d (name_at (t ∷ p ++ d)) (name_step b (names_within b k) used) (name_step b (names_within b j) used)
      (step_past k used) (name_at (t ∷ p ++ c))
      (λ x q e.
      let s = not_longer P name_kind name_at (name_honest P) x (t ∷ p ++ c) (q ++ c) e in
      let qc = length-append q c in let pc = length-append p c in
      let qd = length-append q d in let pd = length-append p d in
      let bytes : ℕ = used + length x.name + 1 in
      or_passed_alike c d (bytes_limit b) (bytes_limit b) (length (q ++ c)) (length (q ++ d))
      (goes_on (names_within b k bytes) x (q ++ c)) (goes_on (names_within b j bytes) x (q ++ d))
      (dot_alike k j bytes x q c d (λ r. names_alike k j bytes r c d) (omega (arith, h, s))
      (omega (arith, i, s, qc, pc, qd, pd))) (nat_le (used + length x.name) b.bytes))
      ((name_honest P).alike (t ∷ p) c d)

  -- ---- what is known of limits

  dot_extends : (k used : ℕ) (x : Placed Bytes) (rest : List Token) (z : Names × List Token) (v : Bool) →
      cond v (names_within b k (used + length x.name + 1) (drop 1 rest) >>= before_all x) (read_of (x ∷ []) rest) ≡ Ok z →
      Extends (name_bytes (used + length x.name) x) (module_name_measures used z.0)
  dot_extends k used x rest z true e =
      built_extends (names_kind (used + length x.name + 1)) (names_kind used) (name_bytes (used + length x.name) x)
      (λ xs. x ∷ xs) (names_extend used x) (names_within b k (used + length x.name + 1) (drop 1 rest)) z e
  dot_extends k used x rest z false e =
      let same : x ∷ [] ≡ z.0 = cc in
      subst (λ xs. Extends (name_bytes (used + length x.name) x) (module_name_measures used xs)) same
      (names_extend used x [])

  dot_agrees : (k j used : ℕ) (x : Placed Bytes) (t u : Token) (q c d : List Token) → name_of t.what t.at ≡ Some x →
      Agrees (names_kind (used + length x.name + 1)) q c (names_within b k (used + length x.name + 1) (q ++ c))
      (names_within b j (used + length x.name + 1) (q ++ d)) → (v : Bool) → same_what u.what (Sign Dot) ≡ v
      → Agrees (names_kind used) (t ∷ u ∷ q) c
      (cond v (names_within b k (used + length x.name + 1) (q ++ c) >>= before_all x) (read_of (x ∷ []) (u ∷ q ++ c)))
      (cond v (names_within b j (used + length x.name + 1) (q ++ d) >>= before_all x) (read_of (x ∷ []) (u ∷ q ++ d)))
  dot_agrees k j used x t u q c d is on true e =
      let few : ℕ = used + length x.name + 1 in
      built_agrees (names_kind few) (names_kind used) (t ∷ u ∷ []) q (t ∷ u ∷ q) c refl (with_dot used x)
      (dot_are used x t u is (same_is u.what (Sign Dot) e)) (λ xs. x ∷ xs) (more_names used x)
      (names_within b k few (q ++ c)) (names_within b j few (q ++ d))
      (tells_good P (names_kind few) (q ++ c) (names_within b k few (q ++ c)) (names_tells k few (q ++ c)))
      (tells_good P (names_kind few) (q ++ d) (names_within b j few (q ++ d)) (names_tells j few (q ++ d))) on
  dot_agrees k j used x t u q c d is on false e =
      agrees_is (names_kind used) (t ∷ u ∷ q) c (x ∷ []) (t ∷ []) (u ∷ q ++ c) (u ∷ q ++ d) refl (one_is x t used is).words

  on_agrees : (k j used : ℕ) (x : Placed Bytes) (t : Token) (q c d : List Token) → name_of t.what t.at ≡ Some x
      → ((r : List Token) → length (r ++ c) ≤ k → length (r ++ d) ≤ j
      → Agrees (names_kind (used + length x.name + 1)) r c (names_within b k (used + length x.name + 1) (r ++ c))
      (names_within b j (used + length x.name + 1) (r ++ d)))
      → length (q ++ c) ≤ suc k → length (q ++ d) ≤ suc j
      → Agrees (names_kind used) (t ∷ q) c (goes_on (names_within b k (used + length x.name + 1)) x (q ++ c))
      (goes_on (names_within b j (used + length x.name + 1)) x (q ++ d))
  on_agrees k j used x t [] c d is on h i =
      agrees_longer (names_kind used) (t ∷ []) c (name_bytes (used + length x.name) x) (name_bytes (used + length x.name) x)
      (agree_same (t ∷ []) [] (name_bytes (used + length x.name) x) (single x t (used + length x.name) is))
      (goes_on (names_within b k (used + length x.name + 1)) x c)
      (goes_on (names_within b j (used + length x.name + 1)) x d)
      (λ z e. dot_extends k used x c z (is_front (Sign Dot) (front c)) e)
      (λ z e. dot_extends j used x d z (is_front (Sign Dot) (front d)) e)
  on_agrees k j used x t (u ∷ q) c d is on h i =
      dot_agrees k j used x t u q c d is (on q (omega (arith, h)) (omega (arith, i))) (same_what u.what (Sign Dot)) refl

  or_agrees : (used : ℕ) (p c : List Token) (r s : Read Names) (m n : ℕ) → Agrees (names_kind used) p c r s → (v : Bool) →
      Agrees (names_kind used) p c (cond v r (fault_of (Passed (bytes_limit b) m)))
      (cond v s (fault_of (Passed (bytes_limit b) n)))
  or_agrees used p c r s m n h true = h
  or_agrees used p c r s m n h false = tt

  module _ (k j : ℕ) (all : (used : ℕ) (p c d : List Token) → length (p ++ c) ≤ k → length (p ++ d) ≤ j →
      Agrees (names_kind used) p c (names_within b k used (p ++ c)) (names_within b j used (p ++ d))) where
    value_agrees : (used : ℕ) (t : Token) (p c d : List Token) (v : Option (Placed Bytes)) →
        name_of t.what t.at ≡ v → length (p ++ c) ≤ suc k → length (p ++ d) ≤ suc j →
        Agrees (names_kind used) (t ∷ p) c
        (value_or_no (t ∷ p ++ c) v >>= name_step b (names_within b k) used)
        (value_or_no (t ∷ p ++ d) v >>= name_step b (names_within b j) used)
    value_agrees used t p c d None e h i = tt
    value_agrees used t p c d (Some x) e h i =
        let few : ℕ = used + length x.name + 1 in
        or_agrees used (t ∷ p) c (goes_on (names_within b k few) x (p ++ c)) (goes_on (names_within b j few) x (p ++ d))
        (length (p ++ c)) (length (p ++ d))
        (on_agrees k j used x t p c d e (λ r m n. all few r c d m n) h i)
        (nat_le (used + length x.name) b.bytes)

  names_agree : (k j used : ℕ) (p c d : List Token) → length (p ++ c) ≤ k → length (p ++ d) ≤ j →
      Agrees (names_kind used) p c (names_within b k used (p ++ c)) (names_within b j used (p ++ d))
  names_agree k j used [] c d h i = agrees_empty (names_kind used) c (names_within b k used c) (names_within b j used d)
  names_agree zero j used (t ∷ p) c d h i = absurd (let wrong : ⊥ = omega (arith, h) in wrong)
  names_agree (suc k) zero used (t ∷ p) c d h i = absurd (let wrong : ⊥ = omega (arith, i) in wrong)
  names_agree (suc k) (suc j) used (t ∷ p) c d h i =
      value_agrees k j (names_agree k j) used t p c d (name_of t.what t.at) refl
      (let m : length (p ++ c) ≤ suc k = omega (arith, h) in m) (let m : length (p ++ d) ≤ suc j = omega (arith, i) in m)

  module_name_honest : Honest P (names_kind 0) (module_name_at b)
  unfolding module_name_at
  module_name_honest = record {
    example = names_example 0;
    tells = λ ts. names_tells (length ts) 0 ts;
    alike = λ p c d. names_alike (length (p ++ c)) (length (p ++ d)) 0 p c d (omega arith) (omega arith);
    agree = λ p c d. names_agree (length (p ++ c)) (length (p ++ d)) 0 p c d (omega arith) (omega arith);
  }

-- ---- imports

abbrev import_kind : Kind (Importing Bytes)
import_kind = record { words = import_measures; good = formed_import }

abbrev items_kind : Kind (List (Renaming Bytes))
items_kind = record { words = λ xs. measures.listed (map (λ one. plains (renaming_words one)) xs); good = some }

items_honest : (P : Passing) → Honest P items_kind (listed renaming_at)
items_honest P =
    kind_honest P (separated_kind renaming_kind (fixed (Sign Comma ∷ []))) items_kind (listed renaming_at)
    (separated_honest P renaming_kind renaming_at (renaming_honest P) (Sign Comma))
    (record {
      words = λ xs g. refl;
      good = λ xs g. (and_parts (some xs) (list_all (λ (x : Renaming Bytes). true) xs) g).0;
    })

-- ---- the pragma

pragma_honest : (P : Passing) → Honest P (light pragma_words) pragma_at
pragma_honest P =
    test_honest P (light pragma_words) (is_front (Word KwPragma)) (built pragma_of (exactly pragma_whats)) (read_of None)
    (built_honest P (exactly_kind pragma_whats) (light pragma_words) (exactly pragma_whats)
    (exactly_honest P pragma_whats) pragma_of
    (record { words = λ at x. refl; good = λ at x g. refl }))
    (none_honest P (light pragma_words) None (record { words = tt; good = refl }) tt)

-- ---- a module behind its imports

declaration_some : (d : PlainDeclaration) → 0 < length (declaration_measures d)
declaration_some (constant at name t) = omega arith
declaration_some (opaque_type at name parameters universe) = omega arith
declaration_some (record_type at name parameters universe fields) = omega arith
declaration_some (union_type at name parameters universe cases) = omega arith
declaration_some (function at [] header) = omega arith
declaration_some (function at (x ∷ xs) header) = omega arith
declaration_some (class at name parameter methods) = omega arith
declaration_some (instance at [] name t) = omega arith
declaration_some (instance at (x ∷ xs) name t) = omega arith
declaration_some (constant_body at name t e) = omega arith
declaration_some (function_body at [] header body stop) = omega arith
declaration_some (function_body at (x ∷ xs) header body stop) = omega arith
declaration_some (instance_body at [] name t methods) = omega arith
declaration_some (instance_body at (x ∷ xs) name t methods) = omega arith

abbrev parts_words : ModuleParts → Measures
parts_words p = begun p.at (plains (part_words p.part) ++ (module_name_measures 0 p.name ++ (plains (word KwIs)
    ++ (plains (pragma_words p.pragma) ++ (flat_map declaration_measures p.declarations
    ++ plains (word KwEnd ++ part_words p.part ++ mark Dot))))))

abbrev parts_kind : Kind ModuleParts
parts_kind = record {
  words = parts_words;
  good = λ p. some p.name && list_all (formed_declaration p.part) p.declarations;
}

abbrev Named : Type 0
Named = List (Placed Bytes) × (Option Pos × List PlainDeclaration)

abbrev headed_words : Part → Named → Measures
headed_words part x = signs (part_whats part)
    ++ (module_name_measures 0 x.0 ++ (signs (Word KwIs ∷ [])
    ++ (plains (pragma_words x.1.0) ++ (flat_map declaration_measures x.1.1 ++ signs (end_whats part)))))

same_words : (part : Part) (at : Pos) (x : Named) → parts_words (parts_of part at x) ≡ begun at (headed_words part x)
same_words Interface at x = refl
same_words Body at x = refl

-- a word that tells of nothing
abbrev nothing_known : Measured
nothing_known = record { word = record { what = Word KwModule; places = [] }; level = 0; depth = 0; nodes = 0; bytes = 0; before = 0 }

parts_head : (p : ModuleParts) → First nothing_known (parts_words p)
parts_head p = part_head p.part p
  where
    part_head : (part : Part) (p : ModuleParts) → First nothing_known (begun p.at (plains (part_words part)
        ++ (module_name_measures 0 p.name ++ (plains (word KwIs)
        ++ (plains (pragma_words p.pragma) ++ (flat_map declaration_measures p.declarations
        ++ plains (word KwEnd ++ part_words part ++ mark Dot)))))))
    part_head Interface p = (refl, (refl, (refl, (refl, refl))))
    part_head Body p = (refl, (refl, (refl, (refl, refl))))

-- one of three tests before the two others
three_tests : (a c d : Bool) → (a && c && d) ≡ (c && (a && d))
three_tests true c d = refl
three_tests false true d = refl
three_tests false false d = refl

abbrev pub module_kind : Kind PlainModule
module_kind = record { words = measures.measures; good = formed_module }

module _ (b : Bounds) where
  abbrev Q : Passing
  Q = passing b b.nesting

  import_honest : Honest Q import_kind (import_at b)
  unfolding import_at
  import_honest =
      built_honest Q (behind_kind (pair_kind (names_kind 0) (behind_kind (closed_kind items_kind
      (Sign RightParenthesis ∷ Sign Semicolon ∷ [])) (Sign LeftParenthesis ∷ []))) (Word KwImport ∷ [])) import_kind _
      (behind_honest Q _ (Word KwImport ∷ []) _
      (pair_behind Q (names_kind 0) (closed_kind items_kind (Sign RightParenthesis ∷ Sign Semicolon ∷ []))
      (module_name_at b)
      (module_name_honest b) _
      (closed_honest Q items_kind (Sign RightParenthesis ∷ Sign Semicolon ∷ []) (listed renaming_at) (items_honest Q))
      (Sign LeftParenthesis ∷ []))) (importing_of b)
      (record {
        words = λ at x. refl;
        good = λ at x g. g;
      })

  imports_honest : Honest Q (repeated_kind import_kind) (imports_at b)
  imports_honest = repeated_honest Q import_kind (import_at b) import_honest (is_front (Word KwImport))
      (λ i g. omega arith)

  abbrev members_kind : Part → Kind (Option Pos × List PlainDeclaration)
  members_kind part = pair_kind (light pragma_words)
      (closed_kind (repeated_kind (declaration_kind part)) (end_whats part))

  abbrev members_at : Part → List Token → Read (Option Pos × List PlainDeclaration)
  members_at part = pair pragma_at (closed (end_whats part)
      (repeated (begins_declaration part) (declaration_at b part)))

  members_honest : (part : Part) → Honest Q (members_kind part) (members_at part)
  members_honest part =
      pair_honest Q (light pragma_words) (closed_kind (repeated_kind (declaration_kind part)) (end_whats part)) pragma_at
      (pragma_honest Q) (closed (end_whats part) (repeated (begins_declaration part) (declaration_at b part)))
      (closed_honest Q (repeated_kind (declaration_kind part)) (end_whats part)
      (repeated (begins_declaration part) (declaration_at b part))
      (repeated_honest Q (declaration_kind part) (declaration_at b part) (declaration_honest b part)
      (begins_declaration part)
      (λ d g. declaration_some d)))

  abbrev named_kind : Part → Kind Named
  named_kind part = pair_kind (names_kind 0) (behind_kind (members_kind part) (Word KwIs ∷ []))

  abbrev named_at : Part → List Token → Read Named
  named_at part = pair (module_name_at b) (behind_tokens (Word KwIs ∷ []) (members_at part))

  named_honest : (part : Part) → Honest Q (named_kind part) (named_at part)
  named_honest part = pair_behind Q (names_kind 0) (members_kind part) (module_name_at b) (module_name_honest b)
      (members_at part) (members_honest part) (Word KwIs ∷ [])

  with_row : (part : Part) → Row Q parts_kind (λ what. same_what what (Word KwModule)) (parts_with b part)
  unfolding parts_with
  with_row Interface = behind_row Q (named_kind Interface) parts_kind (Word KwModule) [] (named_at Interface)
      (named_honest Interface) (parts_of Interface)
      (record { words = same_words Interface; good = λ at x g. g })
  with_row Body = behind_row Q (named_kind Body) parts_kind (Word KwModule) (Word KwBody ∷ []) (named_at Body)
      (named_honest Body) (parts_of Body)
      (record { words = same_words Body; good = λ at x g. g })

  parts_honest : Honest Q parts_kind (parts_at b)
  parts_honest = second_honest Q parts_kind (λ w. parts_with b (part_by (is_front (Word KwBody) w)))
      (λ w. (with_row (part_by (is_front (Word KwBody) w))).honest) (λ what. same_what what (Word KwModule))
      (λ w. (with_row (part_by (is_front (Word KwBody) w))).opened) nothing_known (λ p g. parts_head p)

  module_honest : Honest Q module_kind (module_at b)
  unfolding module_at
  module_honest =
      shaped_honest Q (pair_kind (repeated_kind import_kind) parts_kind) module_kind (pair (imports_at b) (parts_at b))
      (pair_honest Q (repeated_kind import_kind) parts_kind (imports_at b) imports_honest (parts_at b)
      parts_honest) module_of
      (record {
        words = λ x g. refl;
        good = λ x g. three_tests (some x.1.name) (list_all formed_import x.0)
            (list_all (formed_declaration x.1.part) x.1.declarations) ∙ g;
      })

  -- ---- a file: a module, and nothing behind it

  is_all : (m : PlainModule) (us : List Token) → Is module_kind m us → Grows module_kind module_kind m us
  is_all m us is = record {
    rest = [];
    tree = m;
    is = subst (Is module_kind m) (sym (append-nil us)) is;
    words = ([], inl (sym (append-nil (measures.measures m))));
  }

  ending_tells : (m : PlainModule) (ts us rest : List Token) → ts ≡ us ++ rest → Is module_kind m us →
      Keep Q.of (measures.measures m) → Tells Q module_kind ts (ending b m rest)
  ending_tells m ts us [] same is keep = record { front = us; same = same; is = is; keeps = keep }
  ending_tells m ts us (t ∷ rest) same is keep = record {
    front = us;
    back = t ∷ rest;
    same = same;
    size = refl;
    rest = [];
    tree = m;
    is = subst (Is module_kind m) (sym (append-nil us)) is;
    keeps = keep_over Q.of us (measures.measures m) is.words keep;
  }

  ending_past : (m : PlainModule) (rest : List Token) → Past (length rest) (ending b m rest)
  ending_past m [] = omega arith
  ending_past m (t ∷ rest) = omega arith

  ended_past : (x : PlainModule × List Token) → Past (length x.1) (ended b x)
  ended_past x = ending_past x.0 x.1

  ending_alike : (m : PlainModule) (q c d : List Token) → Alike c d (ending b m (q ++ c)) (ending b m (q ++ d))
  ending_alike m [] c d = past_alike c d (ending b m d) (ending b m c) (ending_past m c)
  ending_alike m (t ∷ q) c d = no_alike (t ∷ q) c d

  ending_extends : (m : PlainModule) (rest : List Token) (z : PlainModule × List Token) → ending b m rest ≡ Ok z →
      Extends (measures.measures m) (measures.measures z.0)
  ending_extends m [] z e =
      let same : m ≡ z.0 = cc in
      subst (λ u. Extends (measures.measures m) (measures.measures u)) same
      ([], inl (sym (append-nil (measures.measures m))))
  ending_extends m (t ∷ rest) z e = absurd (let wrong = e in cc)

  ending_agrees : (m : PlainModule) (all us q c d : List Token) → all ≡ us ++ q → Is module_kind m us →
      Agrees module_kind all c (ending b m (q ++ c)) (ending b m (q ++ d))
  ending_agrees m all us [] c d same is =
      agrees_longer module_kind all c (measures.measures m) (measures.measures m)
      (agree_same all [] (measures.measures m) (subst (AreMeasured (measures.measures m))
      (sym (append-nil us) ∙ sym same ∙ sym (append-nil all)) is.words))
      (ending b m c) (ending b m d) (ending_extends m c) (ending_extends m d)
  ending_agrees m all us (t ∷ q) c d same is = tt

  pub file_honest : Honest Q module_kind (file_at b)
  unfolding file_at
  file_honest = record {
    example = module_honest.example;
    tells = λ ts. bind_tells Q module_kind module_kind ts (ended b)
        (λ m us rest same is keep. ending_tells m ts us rest same is keep) is_all (module_at b ts) (module_honest.tells ts);
    alike = λ p c d. bind_alike c d (module_at b (p ++ d)) (ended b) (ended b) ended_past (module_at b (p ++ c))
        (λ m q e. ending_alike m q c d) (module_honest.alike p c d);
    agree = λ p c d. bind_agrees module_kind module_kind p c d (ended b) (ended b)
        (λ x z e. ending_extends x.0 x.1 z e) (λ x z e. ending_extends x.0 x.1 z e)
        (module_at b (p ++ c)) (module_at b (p ++ d)) (module_honest.alike p c d) (module_honest.agree p c d)
        (λ m q e. let w = tells_cut Q module_kind p c (module_at b (p ++ c)) (module_honest.tells (p ++ c)) m q e in
        ending_agrees m p w.0 q c d w.1 w.2);
  }
