-- The laws of the reader of a file.
use Rattle.std.proofs.Common.{◌≡◌, ◌<◌, ◌≤◌, Bool, true, false, not, ◌&&◌, List, [], ◌∷◌, ◌++◌, length, map}
use Rattle.std.proofs.Common.{drop, Option, Some, None, Ok, refl, sym, ap, ◌∙◌, subst, arith, inl, inr, ◌⊎◌}
use Rattle.std.specs.List.{flat_map, list_all}
use Rattle.std.proofs.lemmas.Bool.{and_parts, not-true, cond-true, cond-false}
use Rattle.std.proofs.lemmas.List.{append_assoc}
use Rattle.au_base.specs.declared.limits.Limit.{Limit}
use Rattle.au_base.specs.declared.places.Pos.{Pos}
use Rattle.au_base.specs.declared.tokens.Keyword.TheVariants.{KwModule, KwBody, KwIs, KwEnd, KwImport, KwPragma}
use Rattle.au_base.specs.declared.tokens.Sign.TheVariants.{LeftParenthesis, RightParenthesis, Semicolon, Dot}
use Rattle.au_base.specs.declared.tokens.Token.{Token}
use Rattle.au_base.specs.declared.tokens.What.{What}
use Rattle.au_base.specs.declared.tokens.What.TheVariants.{Word, Sign}
use Rattle.au_base.proofs.BoolLemmas.{cond_cases}
use Rattle.au_syntax.specs.declared.modules.Part.{Part}
use Rattle.au_syntax.specs.declared.modules.Part.TheVariants.{Interface, Body}
use Rattle.au_syntax.specs.Modules.{constant, opaque_type, record_type, union_type, function, class, instance}
use Rattle.au_syntax.specs.Modules.{constant_body, function_body, instance_body, Importing}
use Rattle.au_syntax.specs.Names.{Placed, Renaming}
use Rattle.au_syntax.specs.Plain.{Bytes, PlainDeclaration}
use Rattle.au_syntax.specs.Depths.{greatest, declaration_depth}
use Rattle.au_syntax.specs.Sizes.{declaration_types, joined}
use Rattle.au_syntax.specs.Forms.{some, formed_declaration, formed_import}
use Rattle.au_syntax.specs.Words as words
use Rattle.au_syntax.specs.Words.{Words, AreWords, begun, word, mark, name_words, dotted, renaming_words}
use Rattle.au_syntax.specs.Words.{declaration_words, import_words, part_words, pragma_words}
use Rattle.au_read_expressions.specs.Bounds.{Bounds, TreePasses, bytes_limit}
use Rattle.au_read_expressions.specs.Reading.{Read, front, is_front, begins_with, same_what, read_of}
use Rattle.au_read_expressions.specs.Reading.{behind_tokens, closed, pair, built, exactly}
use Rattle.au_read_expressions.specs.Spelling.{Begins, fixed}
use Rattle.au_read_expressions.proofs.Steps.{begins_again, same_is}
use Rattle.au_read_expressions.proofs.Begins.{begins_split, begun_split, front_of}
use Rattle.au_read_expressions.proofs.Forms.{Form, Sound, Finds, Reads, light, anything, behind_form}
use Rattle.au_read_expressions.proofs.Forms.{behind_reads, closed_form, closed_reads, pair_form, pair_behind}
use Rattle.au_read_expressions.proofs.Forms.{sound_of, Builds, built_sound, built_found}
use Rattle.au_read_expressions.proofs.ListForms.{repeated_form, repeated_reads}
use Rattle.au_read_expressions.proofs.Limits.{TreeFits}
use Rattle.au_read_expressions.proofs.Single.{exactly_reads}
use Rattle.au_read_statements.specs.StatementReading.{renaming_at}
use Rattle.au_parser.specs.DeclarationReading.{begins_declaration}
use Rattle.au_parser.specs.ModuleReading.{module_name_at, importing_of, import_at, imports_at, pragma_whats}
use Rattle.au_parser.specs.ModuleReading.{pragma_of, pragma_at, ModuleParts, parts_of, part_whats, part_by}
use Rattle.au_parser.specs.ModuleReading.{parts_with, parts_at, ended}
use Rattle.au_parser.proofs.Known.{Said, Same, form_of, Known, of_light, then_closed, both, retold, all_of}
use Rattle.au_parser.proofs.Lower.{Lower}
use Rattle.au_parser.proofs.PartForms.{ends_renaming, renaming_known, some_known}
use Rattle.au_parser.proofs.DeclarationForm.{declaration_known}
use Rattle.au_parser.proofs.NameForm.{names_form, ends_names, names_reads}

-- ---- imports

-- an import, whose module's name has no more bytes than the limit
abbrev pub import_form : Bounds → Form (Importing Bytes)
import_form b = record {
  words = import_words;
  good = formed_import;
  Fits = λ i. length (joined i.from) ≤ b.bytes;
  Passes = λ i l. (b.bytes < length (joined i.from)) × (l ≡ bytes_limit b);
}

import_group : (w n l r p s : Words) → (w ++ n ++ l ++ r ++ p ++ s) ≡ (w ++ (n ++ (l ++ (r ++ (p ++ s)))))
import_group w n l r p s = simp append_assoc

module _ (b : Bounds) where
  abbrev items_known : Known b (List (Renaming Bytes))
  items_known = some_known b renaming_words ends_renaming renaming_at (renaming_known b).reads (λ x. omega arith) refl

  abbrev items_form : Form (List (Renaming Bytes))
  items_form = form_of b items_known.said

  abbrev closed_items : Form (List (Renaming Bytes))
  closed_items = closed_form items_form (Sign RightParenthesis ∷ Sign Semicolon ∷ [])

  closed_items_reads : Reads closed_items anything
      (closed (Sign RightParenthesis ∷ Sign Semicolon ∷ []) items_known.read)
  closed_items_reads = closed_reads items_form items_known.ends items_known.read items_known.reads
      (Sign RightParenthesis) (Sign Semicolon ∷ []) refl

  abbrev from_items : Form (List (Placed Bytes) × List (Renaming Bytes))
  from_items = pair_form (names_form b) (behind_form closed_items (Sign LeftParenthesis ∷ []))

  abbrev from_items_at : List Token → Read (List (Placed Bytes) × List (Renaming Bytes))
  from_items_at = pair (module_name_at b)
      (behind_tokens (Sign LeftParenthesis ∷ [])
      (closed (Sign RightParenthesis ∷ Sign Semicolon ∷ []) items_known.read))

  from_items_reads : Reads from_items anything from_items_at
  from_items_reads =
      pair_behind (names_form b) closed_items ends_names anything (module_name_at b) (names_reads b)
      (closed (Sign RightParenthesis ∷ Sign Semicolon ∷ []) items_known.read) closed_items_reads
      (Sign LeftParenthesis) [] refl

  abbrev import_parts : Form (List (Placed Bytes) × List (Renaming Bytes))
  import_parts = behind_form from_items (Word KwImport ∷ [])

  import_parts_reads : Reads import_parts anything (behind_tokens (Word KwImport ∷ []) from_items_at)
  import_parts_reads = behind_reads from_items anything from_items_at from_items_reads (Word KwImport ∷ [])

  no_depth : (l : Limit) → TreePasses b b.nesting 0 [] l → ⊥
  no_depth l p = elim p [ inl q ↦ (let wrong : ⊥ = omega (arith, q.0) in wrong) | inr q ↦ q ]

  import_builds : Builds import_parts (import_form b) anything
      (behind_tokens (Word KwImport ∷ []) from_items_at) import_parts_reads (importing_of b)
  import_builds = record {
    words = λ at x. ap (begun at) (import_group (word KwImport) (dotted x.0) (mark LeftParenthesis)
        (words.listed (map renaming_words x.1)) (mark RightParenthesis) (mark Semicolon));
    some = λ x. omega arith;
    good_to = λ at x g. g;
    good_from = λ at x g. g;
    fits = λ at x h. h.0;
    passes = λ at x l p. elim p [ inl q ↦ q | inr q ↦ absurd (no_depth l q) ];
  }

  abbrev importing_parts : Importing Bytes → List (Placed Bytes) × List (Renaming Bytes)
  importing_parts i = (i.from, i.items)

  pub import_reads : Reads (import_form b) anything (import_at b)
  unfolding import_at
  import_reads = record {
    sound = built_sound import_parts (import_form b) anything
        (behind_tokens (Word KwImport ∷ []) from_items_at) import_parts_reads (importing_of b) import_builds;
    found = λ i. built_found import_parts (import_form b) anything
        (behind_tokens (Word KwImport ∷ []) from_items_at) import_parts_reads (importing_of b) import_builds
        i.at (importing_parts i);
  }

  import_starts : (i : Importing Bytes) (ts rest : List Token) → Begins (import_words i) ts rest →
      formed_import i ≡ true → is_front (Word KwImport) (front ts) ≡ true
  import_starts i ts rest h good = ap (is_front (Word KwImport)) (front_of (import_words i) ts rest (omega arith) h)

  abbrev pub ends_imports : Option What → Bool
  ends_imports what = not (is_front (Word KwImport) what) && true

  pub imports_reads : Reads (repeated_form (import_form b)) ends_imports (imports_at b)
  imports_reads = repeated_reads (import_form b) anything (is_front (Word KwImport)) (import_at b)
      import_reads import_starts (λ i good. omega arith) (λ what e. refl)

-- ---- the pragma

abbrev pub ends_pragma : Option What → Bool
ends_pragma what = not (is_front (Word KwPragma) what)

abbrev pragma_exactly : Form (Unit {0})
pragma_exactly = light (λ (x : Unit {0}). fixed pragma_whats)

pragma_builds : Builds pragma_exactly (light pragma_words) anything (exactly pragma_whats)
    (exactly_reads pragma_whats) pragma_of
pragma_builds = record {
  words = λ at x. refl;
  some = λ x. omega arith;
  good_to = λ at x g. refl;
  good_from = λ at x g. refl;
  fits = λ at x h. tt;
  passes = λ at x l p. p;
}

pragma_sound : (ts rest : List Token) (x : Option Pos) → pragma_at ts ≡ Ok (x, rest) →
    Sound (light pragma_words) x ts rest
pragma_sound ts rest x e =
    elim (cond_cases (begins_with (Word KwPragma) ts) (built pragma_of (exactly pragma_whats) ts)
    (read_of None ts) (read_of x rest) e) [
      | inl w ↦ built_sound pragma_exactly (light pragma_words) anything (exactly pragma_whats)
          (exactly_reads pragma_whats) pragma_of pragma_builds ts rest x w.1
      | inr w ↦ sound_of (light pragma_words) None x ts ts rest (record { spelled = refl; good = refl; fits = tt }) w.1
    ]

pragma_found : (x : Option Pos) (ts rest : List Token) → Begins (pragma_words x) ts rest → true ≡ true →
    ends_pragma (front rest) ≡ true → Finds (light pragma_words) x rest (pragma_at ts)
pragma_found None ts rest h good ended =
    let none : begins_with (Word KwPragma) ts ≡ false = ap (begins_with (Word KwPragma)) h
    ∙ not-true (begins_with (Word KwPragma) rest) ended in
    inl (cond-false (begins_with (Word KwPragma) ts) (built pragma_of (exactly pragma_whats) ts)
    (read_of None ts) none ∙ ap (λ r. read_of None r) h)
pragma_found (Some at) ts rest h good ended =
    let first : begins_with (Word KwPragma) ts ≡ true =
    begins_again (Word KwPragma) ts (front_of (pragma_words (Some at)) ts rest (omega arith) h) in
    subst (Finds (light pragma_words) (Some at) rest)
    (sym (cond-true (begins_with (Word KwPragma) ts) (built pragma_of (exactly pragma_whats) ts)
    (read_of None ts) first))
    (built_found pragma_exactly (light pragma_words) anything (exactly pragma_whats)
    (exactly_reads pragma_whats) pragma_of pragma_builds at tt ts rest h refl refl)

pub pragma_reads : Reads (light pragma_words) ends_pragma pragma_at
pragma_reads = record { sound = pragma_sound; found = pragma_found }

-- ---- declarations

declaration_starts : (part : Part) (d : PlainDeclaration) (ts rest : List Token) →
    Begins (declaration_words d) ts rest → formed_declaration part d ≡ true → begins_declaration part (front ts)
    ≡ true
declaration_starts Interface (constant at name t) ts rest h good =
    ap (begins_declaration Interface)
    (front_of (declaration_words (constant at name t)) ts rest (omega arith) h)
declaration_starts Interface (opaque_type at name parameters universe) ts rest h good =
    ap (begins_declaration Interface)
    (front_of (declaration_words (opaque_type at name parameters universe)) ts rest (omega arith) h)
declaration_starts Interface (record_type at name parameters universe fields) ts rest h good =
    ap (begins_declaration Interface)
    (front_of (declaration_words (record_type at name parameters universe fields)) ts rest (omega arith) h)
declaration_starts Interface (union_type at name parameters universe cases) ts rest h good =
    ap (begins_declaration Interface)
    (front_of (declaration_words (union_type at name parameters universe cases)) ts rest (omega arith) h)
declaration_starts Interface (function at [] header) ts rest h good =
    ap (begins_declaration Interface)
    (front_of (declaration_words (function at [] header)) ts rest (omega arith) h)
declaration_starts Interface (function at (x ∷ xs) header) ts rest h good =
    ap (begins_declaration Interface)
    (front_of (declaration_words (function at (x ∷ xs) header)) ts rest (omega arith) h)
declaration_starts Interface (class at name parameter methods) ts rest h good =
    ap (begins_declaration Interface)
    (front_of (declaration_words (class at name parameter methods)) ts rest (omega arith) h)
declaration_starts Interface (instance at [] name t) ts rest h good =
    ap (begins_declaration Interface)
    (front_of (declaration_words (instance at [] name t)) ts rest (omega arith) h)
declaration_starts Interface (instance at (x ∷ xs) name t) ts rest h good =
    ap (begins_declaration Interface)
    (front_of (declaration_words (instance at (x ∷ xs) name t)) ts rest (omega arith) h)
declaration_starts Body (constant_body at name t e) ts rest h good =
    ap (begins_declaration Body) (front_of (declaration_words (constant_body at name t e)) ts rest (omega arith)
    h)
declaration_starts Body (record_type at name parameters universe fields) ts rest h good =
    ap (begins_declaration Body) (front_of (declaration_words (record_type at name parameters universe fields))
    ts rest (omega arith) h)
declaration_starts Body (union_type at name parameters universe cases) ts rest h good =
    ap (begins_declaration Body) (front_of (declaration_words (union_type at name parameters universe cases)) ts
    rest (omega arith) h)
declaration_starts Body (class at name parameter methods) ts rest h good =
    ap (begins_declaration Body) (front_of (declaration_words (class at name parameter methods)) ts rest
    (omega arith) h)
declaration_starts Body (function_body at [] header body stop) ts rest h good =
    ap (begins_declaration Body) (front_of (declaration_words (function_body at [] header body stop)) ts rest
    (omega arith) h)
declaration_starts Body (function_body at (x ∷ xs) header body stop) ts rest h good =
    ap (begins_declaration Body) (front_of (declaration_words (function_body at (x ∷ xs) header body stop)) ts
    rest (omega arith) h)
declaration_starts Body (instance_body at [] name t methods) ts rest h good =
    ap (begins_declaration Body) (front_of (declaration_words (instance_body at [] name t methods)) ts rest
    (omega arith) h)
declaration_starts Body (instance_body at (x ∷ xs) name t methods) ts rest h good =
    ap (begins_declaration Body) (front_of (declaration_words (instance_body at (x ∷ xs) name t methods)) ts
    rest (omega arith) h)
declaration_starts part d ts rest h good = absurd (let wrong = good in cc)

declaration_some : (d : PlainDeclaration) → 0 < length (declaration_words d)
declaration_some (constant at name t) = omega arith
declaration_some (opaque_type at name parameters universe) = omega arith
declaration_some (record_type at name parameters universe fields) = omega arith
declaration_some (union_type at name parameters universe cases) = omega arith
declaration_some (function at [] header) = omega arith
declaration_some (function at (x ∷ xs) header) = omega arith
declaration_some (class at name parameter methods) = omega arith
declaration_some (instance at [] name t) = omega arith
declaration_some (instance at (x ∷ xs) name t) = omega arith
declaration_some (constant_body at name t e) = omega arith
declaration_some (function_body at [] header body stop) = omega arith
declaration_some (function_body at (x ∷ xs) header body stop) = omega arith
declaration_some (instance_body at [] name t methods) = omega arith
declaration_some (instance_body at (x ∷ xs) name t methods) = omega arith

-- no declaration begins with a pragma or an `end`
no_pragma : (part : Part) → begins_declaration part (Some (Word KwPragma)) ≡ false
no_pragma Interface = refl
no_pragma Body = refl

no_end : (part : Part) → (not (begins_declaration part (Some (Word KwEnd))) && true) ≡ true
no_end Interface = refl
no_end Body = refl

pragma_not : (part : Part) (what : What) (v : Bool) → begins_declaration part (Some what) ≡ true →
    same_what what (Word KwPragma) ≡ v → not v ≡ true
pragma_not part what false e is = refl
pragma_not part what true e is =
    absurd (
    let begun_so : begins_declaration part (Some (Word KwPragma)) ≡ true =
    ap (λ w. begins_declaration part (Some w)) (sym (same_is what (Word KwPragma) is)) ∙ e in
    let wrong : true ≡ false = sym begun_so ∙ no_pragma part in
    cc)

not_pragma : (part : Part) (what : Option What) → begins_declaration part what ≡ true → ends_pragma what ≡ true
not_pragma part None e = refl
not_pragma part (Some what) e = pragma_not part what (same_what what (Word KwPragma)) e refl

abbrev end_rest : Part → List What
end_rest Interface = Word KwModule ∷ Sign Dot ∷ []
end_rest Body = Word KwModule ∷ Word KwBody ∷ Sign Dot ∷ []

-- ---- a module behind its imports

abbrev pub parts_words : ModuleParts → Words
parts_words p = begun p.at (part_words p.part ++ dotted p.name ++ word KwIs ++ pragma_words p.pragma
    ++ flat_map declaration_words p.declarations ++ word KwEnd ++ part_words p.part ++ mark Dot)

abbrev pub parts_form : Bounds → Form ModuleParts
parts_form b = record {
  words = parts_words;
  good = λ p. some p.name && list_all (formed_declaration p.part) p.declarations;
  Fits = λ p. TreeFits b b.nesting (greatest declaration_depth p.declarations)
      (flat_map declaration_types p.declarations) × (length (joined p.name) ≤ b.bytes);
  Passes = λ p l. TreePasses b b.nesting (greatest declaration_depth p.declarations)
      (flat_map declaration_types p.declarations) l
      ⊎ ((b.bytes < length (joined p.name)) × (l ≡ bytes_limit b));
}

abbrev members_said : Part → Said (Option Pos × List PlainDeclaration)
members_said part = record {
  words = λ x. pragma_words x.0 ++ (flat_map declaration_words x.1 ++ fixed (Word KwEnd ∷ end_rest part));
  good = λ x. list_all (formed_declaration part) x.1;
  depth = λ x. greatest declaration_depth x.1;
  types = λ x. flat_map declaration_types x.1;
}

parts_group : (p n i q d e m t : Words) → (p ++ n ++ i ++ q ++ d ++ e ++ m ++ t)
    ≡ (p ++ (n ++ (i ++ (q ++ (d ++ (e ++ (m ++ t)))))))
parts_group p n i q d e m t = simp append_assoc

abbrev Named : Type 0
Named = List (Placed Bytes) × (Option Pos × List PlainDeclaration)

abbrev headed_words : Part → Named → Words
headed_words part x = fixed (part_whats part)
    ++ (dotted x.0 ++ (fixed (Word KwIs ∷ [])
    ++ (pragma_words x.1.0 ++ (flat_map declaration_words x.1.1 ++ fixed (Word KwEnd ∷ end_rest part)))))

same_words : (part : Part) (at : Pos) (x : Named) → parts_words (parts_of part at x) ≡ begun at (headed_words part x)
same_words Interface at x = ap (begun at)
    (parts_group (word KwModule) (dotted x.0) (word KwIs) (pragma_words x.1.0)
    (flat_map declaration_words x.1.1) (word KwEnd) (word KwModule) (mark Dot))
same_words Body at x = ap (begun at)
    (parts_group (word KwModule ++ word KwBody) (dotted x.0) (word KwIs) (pragma_words x.1.0)
    (flat_map declaration_words x.1.1) (word KwEnd) (word KwModule ++ word KwBody) (mark Dot))

headed_some : (part : Part) (x : Named) → 0 < length (headed_words part x)
headed_some Interface x = omega arith
headed_some Body x = omega arith

-- the second word says which part it is
second_by : (part : Part) (names : List (Placed Bytes)) (others : Words) (ts rest : List Token) →
    Begins (fixed (part_whats part) ++ (dotted names ++ others)) ts rest → some names ≡ true
    → part_by (begins_with (Word KwBody) (drop 1 ts)) ≡ part
second_by Interface [] others ts rest h good = absurd (let wrong = good in cc)
second_by Interface (n ∷ ns) others [] rest h good = absurd h
second_by Interface (n ∷ ns) others (t ∷ ts) rest h good = ap (λ w. part_by (is_front (Word KwBody) w))
    (front_of (dotted (n ∷ ns) ++ others) ts rest (omega arith) h.1)
second_by Body names others [] rest h good = absurd h
second_by Body names others (t ∷ []) rest h good = absurd h.1
second_by Body names others (t ∷ u ∷ ts) rest h good = ap (λ w. part_by (is_front (Word KwBody) (Some w))) h.1.0.0

first_module : (part : Part) (at : Pos) (n i q d e t : Words) (ts rest : List Token) →
    Begins (begun at (part_words part ++ n ++ i ++ q ++ d ++ e ++ part_words part ++ t)) ts rest →
    front ts ≡ Some (Word KwModule)
first_module Interface at n i q d e t ts rest h =
    front_of (begun at (part_words Interface ++ n ++ i ++ q ++ d ++ e ++ part_words Interface ++ t)) ts rest
    (omega arith) h
first_module Body at n i q d e t ts rest h =
    front_of (begun at (part_words Body ++ n ++ i ++ q ++ d ++ e ++ part_words Body ++ t)) ts rest (omega arith)
    h

pub parts_front : (p : ModuleParts) (ts rest : List Token) → Begins (parts_words p) ts rest →
    front ts ≡ Some (Word KwModule)
parts_front p ts rest h = first_module p.part p.at (dotted p.name) (word KwIs) (pragma_words p.pragma)
    (flat_map declaration_words p.declarations) (word KwEnd) (mark Dot) ts rest h

module _ (b : Bounds) (low : Lower b) where
  module _ (part : Part) where
    abbrev declaration_list : Known b (List PlainDeclaration)
    declaration_list = all_of b (declaration_known b low part) (λ d good. declaration_some d)
        (begins_declaration part) (declaration_starts part) (λ what e. refl)

    abbrev closed_list : Known b (List PlainDeclaration)
    closed_list = then_closed b (Word KwEnd) (end_rest part) declaration_list (no_end part)

    abbrev pragma_known : Known b (Option Pos)
    pragma_known = of_light b pragma_words ends_pragma pragma_at pragma_reads

    pragma_stops : (ds : List PlainDeclaration) (ts rest : List Token) →
        Begins (flat_map declaration_words ds ++ fixed (Word KwEnd ∷ end_rest part)) ts rest →
        list_all (formed_declaration part) ds ≡ true → true ≡ true
        → ends_pragma (front ts) ≡ true
    pragma_stops [] ts rest h good ended =
        ap ends_pragma (front_of (fixed (Word KwEnd ∷ end_rest part)) ts rest (omega arith) h)
    pragma_stops (d ∷ ds) ts rest h good ended =
        let s = begins_split (flat_map declaration_words (d ∷ ds)) (fixed (Word KwEnd ∷ end_rest part)) ts rest h in
        let t = begins_split (declaration_words d) (flat_map declaration_words ds) ts s.0 s.1 in
        not_pragma part (front ts) (declaration_starts part d ts t.0 t.1
        (and_parts (formed_declaration part d) (list_all (formed_declaration part) ds) good).0)

    abbrev pragma_and_list : Known b (Option Pos × List PlainDeclaration)
    pragma_and_list = both b pragma_known closed_list pragma_stops

    members_same : Same pragma_and_list.said (members_said part) (λ x. x)
    members_same = record { words = λ x. refl; good = λ x. refl; depth = λ x. omega arith; types = λ x. refl }

    abbrev members_known : Known b (Option Pos × List PlainDeclaration)
    members_known = retold b pragma_and_list (members_said part) members_same

    abbrev members_form : Form (Option Pos × List PlainDeclaration)
    members_form = form_of b (members_said part)

    abbrev named_form : Form Named
    named_form = pair_form (names_form b) (behind_form members_form (Word KwIs ∷ []))

    abbrev named_at : List Token → Read Named
    named_at = pair (module_name_at b) (behind_tokens (Word KwIs ∷ []) members_known.read)

    named_reads : Reads named_form anything named_at
    named_reads = pair_behind (names_form b) members_form ends_names anything (module_name_at b)
        (names_reads b) members_known.read members_known.reads (Word KwIs) [] refl

    abbrev headed_form : Form Named
    headed_form = behind_form named_form (part_whats part)

    abbrev headed_at : List Token → Read Named
    headed_at = behind_tokens (part_whats part) named_at

    headed_reads : Reads headed_form anything headed_at
    headed_reads = behind_reads named_form anything named_at named_reads (part_whats part)

    parts_builds : Builds headed_form (parts_form b) anything headed_at headed_reads (parts_of part)
    parts_builds = record {
      words = same_words part;
      some = headed_some part;
      good_to = λ at x g. g;
      good_from = λ at x g. g;
      fits = λ at x h. (h.1, h.0);
      passes = λ at x l p. elim p [ inl q ↦ inr q | inr q ↦ inl q ];
    }

    built_so : (ts rest : List Token) (p : ModuleParts) → built (parts_of part) headed_at ts ≡ Ok (p, rest) →
        Sound (parts_form b) p ts rest
    built_so = built_sound headed_form (parts_form b) anything headed_at headed_reads (parts_of part) parts_builds

    found_so : (at : Pos) (x : Named) (ts rest : List Token) → Begins (parts_words (parts_of part at x)) ts
        rest → (some x.0 && list_all (formed_declaration part) x.1.1) ≡ true
        → Finds (parts_form b) (parts_of part at x) rest (built (parts_of part) headed_at ts)
    found_so at x ts rest h good = built_found headed_form (parts_form b) anything headed_at headed_reads
        (parts_of part) parts_builds at x ts rest h good refl

  with_sound : (part : Part) (ts rest : List Token) (p : ModuleParts) → parts_with b part ts ≡ Ok (p, rest) →
      Sound (parts_form b) p ts rest
  unfolding parts_with
  with_sound Interface ts rest p e = built_so Interface ts rest p e
  with_sound Body ts rest p e = built_so Body ts rest p e

  with_found : (part : Part) (at : Pos) (x : Named) (ts rest : List Token) →
      Begins (parts_words (parts_of part at x)) ts rest → (some x.0 && list_all (formed_declaration part) x.1.1)
      ≡ true
      → Finds (parts_form b) (parts_of part at x) rest (parts_with b part ts)
  unfolding parts_with
  with_found Interface at x ts rest h good = found_so Interface at x ts rest h good
  with_found Body at x ts rest h good = found_so Body at x ts rest h good

  at_found : (part : Part) (at : Pos) (x : Named) (ts rest : List Token) →
      Begins (parts_words (parts_of part at x)) ts rest → (some x.0 && list_all (formed_declaration part) x.1.1)
      ≡ true
      → Finds (parts_form b) (parts_of part at x) rest (parts_at b ts)
  at_found part at x ts rest h good =
      let w = begun_split at (headed_words part x) ts rest (headed_some part x)
      (subst (λ ws. Begins ws ts rest) (same_words part at x) h) in
      let others : Words = fixed (Word KwIs ∷ [])
      ++ (pragma_words x.1.0 ++ (flat_map declaration_words x.1.1 ++ fixed (Word KwEnd ∷ end_rest part))) in
      let g = and_parts (some x.0) (list_all (formed_declaration part) x.1.1) good in
      let is : part_by (begins_with (Word KwBody) (drop 1 ts)) ≡ part = second_by part x.0 others ts rest w.1 g.0 in
      subst (λ r. Finds (parts_form b) (parts_of part at x) rest (parts_with b r ts)) (sym is)
      (with_found part at x ts rest h good)

  pub parts_reads : Reads (parts_form b) anything (parts_at b)
  parts_reads = record {
    sound = λ ts rest p e. with_sound (part_by (begins_with (Word KwBody) (drop 1 ts))) ts rest p e;
    found = λ p ts rest h good ended. at_found p.part p.at (p.name, (p.pragma, p.declarations)) ts rest h good;
  }
