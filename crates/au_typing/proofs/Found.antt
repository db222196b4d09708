-- Whatever is good is found.
use Rattle.std.proofs.Common.{◌≡◌, ℕ, suc, Bool, ◌&&◌, List, ◌∷◌, refl, sym, ap, ◌∙◌, Some, Ok, neg_ℤ}
use Rattle.au_syntax.specs.Expressions.{number, negative, text, truth, nil, path, arrow, call, named_call}
use Rattle.au_syntax.specs.Expressions.{parenthesized, dereference, borrow, borrow_part, binary, negation}
use Rattle.au_syntax.specs.Expressions.{typed, choice, no_expressions, expressions, no_arguments, arguments}
use Rattle.au_syntax.specs.Names.{Placed}
use Rattle.au_syntax.specs.Plain.{Bytes, plain_node}
use Rattle.au_types.specs.Types as mean
use Rattle.au_types.specs.Types.{Meaning}
use Rattle.au_typing.specs.Scopes.{Scope}
use Rattle.au_typing.specs.Bare.{is_arithmetic, is_bare}
use Rattle.au_typing.specs.Calls.{by_labels, in_order}
use Rattle.au_typing.specs.Faults.{◌>>=◌, unknown}
use Rattle.au_typing.specs.Good.{AllGood, AllGoodIn, AllGoodLabelled, count_of, items_of, labels_of, values_of}
use Rattle.au_typing.specs.Lookups.{outcome_noted}
use Rattle.au_typing.specs.Notes.{Mode, Note, NotedArguments, NotedExpression, NotedExpressions, erase}
use Rattle.au_typing.specs.Notes.{erase_all, erase_arguments, mode_of, noted_at, type_of}
use Rattle.au_typing.specs.Operands.{of_one_type, paired}
use Rattle.au_typing.specs.Rules.{is_logical, noted}
use Rattle.au_typing.specs.Search.{another_number, arrow_note, binary_noted, borrow_part_note, borrowed}
use Rattle.au_typing.specs.Search.{dereference_note, labelled, labelled_operands, listed, note_expression}
use Rattle.au_typing.specs.Search.{operands, other_labels, path_note}
use Rattle.au_typing.specs.SearchCalls.{call_noted}
use Rattle.au_typing.proofs.FoundCalls.{AllFind, call_found}
use Rattle.au_typing.proofs.FoundParts.{arrow_found, binary_found, borrow_found, borrow_part_found}
use Rattle.au_typing.proofs.FoundParts.{dereference_found, literal_found, one_type_found, paired_found}
use Rattle.au_typing.proofs.FoundParts.{path_found}
use Rattle.au_typing.proofs.Steps.{bind_found, known_found, names_kept, noted_found, ok_same}

-- ---- what erasing keeps

pub bare_kept : (e : NotedExpression) → is_bare (erase e) ≡ is_bare e
bare_kept (number n l) = refl
bare_kept (negative n l) = refl
bare_kept (text n t) = refl
bare_kept (truth n b) = refl
bare_kept (nil n) = refl
bare_kept (path n x fields) = refl
bare_kept (arrow n x fields) = refl
bare_kept (call n f es c) = refl
bare_kept (named_call n f es c) = refl
bare_kept (parenthesized n e) = bare_kept e
bare_kept (dereference n e) = refl
bare_kept (borrow n m x) = refl
bare_kept (borrow_part n x fields) = refl
bare_kept (binary n op a b) =
    ap (λ (x : Bool). is_arithmetic op && x && is_bare (erase b)) (bare_kept a)
    ∙ ap (λ (y : Bool). is_arithmetic op && is_bare a && y) (bare_kept b)
bare_kept (negation n e) = refl
bare_kept (typed n e t) = refl
bare_kept (choice n c a b) = refl

pub count_kept : (es : NotedExpressions) → count_of (erase_all es) ≡ count_of es
count_kept no_expressions = refl
count_kept (expressions e es) = ap suc (count_kept es)

pub labels_kept : (es : NotedArguments) → labels_of (erase_arguments es) ≡ labels_of es
labels_kept no_arguments = refl
labels_kept (arguments label e es) = ap (λ (rest : List Bytes). label.name ∷ rest) (labels_kept es)

listed_items : (es : NotedExpressions) → listed (items_of es) ≡ es
listed_items no_expressions = refl
listed_items (expressions e es) = ap (expressions e) (listed_items es)

labelled_values : (es : NotedArguments) → labelled (erase_arguments es) (values_of es) ≡ es
labelled_values no_arguments = refl
labelled_values (arguments label e es) = ap (arguments label e) (labelled_values es)

-- ---- every kind

module _ (scope : Scope) where
  mutual
    pub found : (a : NotedExpression) → AllGood scope a → note_expression scope (erase a) (mode_of a) ≡ Ok a
    found (number n l) g =
        bind_found (λ (m : Note). Ok (number (noted_at (plain_node n) m) l)) (literal_found n.note l.value g.0 g.1)
    found (negative n l) g =
        bind_found (λ (m : Note). Ok (negative (noted_at (plain_node n) m) l))
        (literal_found n.note (neg_ℤ l.value) g.0 g.1)
    found (text n t) g =
        bind_found (λ (m : Note). Ok (text (noted_at (plain_node n) m) t)) (noted_found n.note mean.text g.0 g.1)
    found (truth n b) g =
        bind_found (λ (m : Note). Ok (truth (noted_at (plain_node n) m) b)) (noted_found n.note mean.truth g.0 g.1)
    found (nil n) g =
        bind_found (λ (m : Note). Ok (nil (noted_at (plain_node n) m))) (noted_found n.note mean.unit g.0 g.1)
    found (path n x fields) g =
        ap (λ (fs : List (Placed Bytes)). note_expression scope (path (plain_node n) x fs) n.note.mode)
        (names_kept fields)
        ∙ (bind_found (λ (t : Meaning). path_note scope n.note.mode fields t >>=
        λ (m : Note). Ok (path (noted_at (plain_node n) m) x fields)) (known_found (unknown x.name) g.1.1)
        ∙ bind_found (λ (m : Note). Ok (path (noted_at (plain_node n) m) x fields))
        (path_found scope n.note g.1.0 fields g.0 g.1.2))
    found (arrow n x fields) g =
        ap (λ (fs : List (Placed Bytes)). note_expression scope (arrow (plain_node n) x fs) n.note.mode)
        (names_kept fields)
        ∙ (bind_found (λ (t : Meaning). arrow_note scope n.note.mode fields t >>=
        λ (m : Note). Ok (arrow (noted_at (plain_node n) m) x fields)) (known_found (unknown x.name) g.1.2)
        ∙ bind_found (λ (m : Note). Ok (arrow (noted_at (plain_node n) m) x fields))
        (arrow_found scope n.note g.1.0 g.1.1 fields g.0 g.1.3 g.1.4))
    found (call n f es c) g =
        ap (λ (count : ℕ). call_noted scope f.name (in_order count) another_number n.note.mode
        (operands scope (erase_all es)) >>= λ (z : Note × List NotedExpression). Ok
        (call (noted_at (plain_node n) z.0) f (listed z.1) tt)) (count_kept es)
        ∙ (bind_found (λ (z : Note × List NotedExpression). Ok
        (call (noted_at (plain_node n) z.0) f (listed z.1) tt))
        (call_found scope n.note f.name (in_order (count_of es)) another_number
        (operands scope (erase_all es)) (items_of es) (all_found es g.1) g.0)
        ∙ ap (λ (x : NotedExpressions). Ok (call n f x c)) (listed_items es))
    found (named_call n f es c) g =
        ap (λ (labels : List Bytes). call_noted scope f.name (by_labels labels) other_labels n.note.mode
        (labelled_operands scope (erase_arguments es)) >>= λ (z : Note × List NotedExpression). Ok
        (named_call (noted_at (plain_node n) z.0) f (labelled (erase_arguments es) z.1) tt))
        (labels_kept es)
        ∙ (bind_found (λ (z : Note × List NotedExpression). Ok
        (named_call (noted_at (plain_node n) z.0) f (labelled (erase_arguments es) z.1) tt))
        (call_found scope n.note f.name (by_labels (labels_of es)) other_labels
        (labelled_operands scope (erase_arguments es)) (values_of es) (labelled_found es g.1) g.0)
        ∙ ap (λ (x : NotedArguments). Ok (named_call n f x c)) (labelled_values es))
    found (parenthesized n e) g =
        ap (λ (mode : Mode). note_expression scope (erase e) mode >>=
        λ (a : NotedExpression). noted n.note.mode (type_of a) >>=
        λ (m : Note). Ok (parenthesized (noted_at (plain_node n) m) a)) (sym g.1.0)
        ∙ (bind_found (λ (a : NotedExpression). noted n.note.mode (type_of a) >>=
        λ (m : Note). Ok (parenthesized (noted_at (plain_node n) m) a)) (found e g.2)
        ∙ bind_found (λ (m : Note). Ok (parenthesized (noted_at (plain_node n) m) e))
        (noted_found n.note (type_of e) g.0 g.1.1))
    found (dereference n e) g =
        bind_found (λ (a : NotedExpression). dereference_note scope n.note.mode (type_of a) >>=
        λ (m : Note). Ok (dereference (noted_at (plain_node n) m) a))
        (ap (note_expression scope (erase e)) (sym g.1.0) ∙ found e g.2)
        ∙ bind_found (λ (m : Note). Ok (dereference (noted_at (plain_node n) m) e))
        (dereference_found scope n.note (type_of e) g.0 g.1.1 g.1.2)
    found (borrow n m x) g =
        bind_found (λ (t : Meaning). borrowed m t >>= λ (of : Meaning). noted n.note.mode of >>=
        λ (k : Note). Ok (borrow (noted_at (plain_node n) k) m x)) (known_found (unknown x.name) g.1.1)
        ∙ (bind_found (λ (of : Meaning). noted n.note.mode of >>=
        λ (k : Note). Ok (borrow (noted_at (plain_node n) k) m x)) (borrow_found m g.1.0 n.note.of g.1.2)
        ∙ bind_found (λ (k : Note). Ok (borrow (noted_at (plain_node n) k) m x))
        (noted_found n.note n.note.of g.0 refl))
    found (borrow_part n x fields) g =
        ap (λ (fs : List (Placed Bytes)). note_expression scope (borrow_part (plain_node n) x fs) n.note.mode)
        (names_kept fields)
        ∙ (bind_found (λ (t : Meaning). borrow_part_note scope n.note.mode fields t >>=
        λ (m : Note). Ok (borrow_part (noted_at (plain_node n) m) x fields))
        (known_found (unknown x.name) g.1.3)
        ∙ bind_found (λ (m : Note). Ok (borrow_part (noted_at (plain_node n) m) x fields))
        (borrow_part_found scope n.note g.1.0 g.1.1 g.1.2 fields g.0 g.1.4 g.1.5 g.1.6))
    found (binary n op a b) g =
        ap (λ (x : Bool). binary_noted scope (is_arithmetic op) (is_logical op) (plain_node n) op x
        (is_bare (erase b)) (note_expression scope (erase a)) (note_expression scope (erase b)) n.note.mode)
        (bare_kept a)
        ∙ (ap (λ (y : Bool). binary_noted scope (is_arithmetic op) (is_logical op) (plain_node n) op
        (is_bare a) y (note_expression scope (erase a)) (note_expression scope (erase b)) n.note.mode)
        (bare_kept b)
        ∙ binary_found scope (is_arithmetic op) (is_logical op) n op (note_expression scope (erase a))
        (note_expression scope (erase b)) a b (found a g.2) (found b g.3) g.0 g.1)
    found (negation n e) g =
        bind_found (λ (a : NotedExpression). noted n.note.mode mean.truth >>=
        λ (m : Note). Ok (negation (noted_at (plain_node n) m) a))
        (ap (note_expression scope (erase e)) (sym g.1.0) ∙ found e g.2)
        ∙ bind_found (λ (m : Note). Ok (negation (noted_at (plain_node n) m) e))
        (noted_found n.note mean.truth g.0 g.1.1)
    found (typed n e t) g =
        bind_found (λ (of : Meaning). note_expression scope (erase e) (Some of) >>=
        λ (a : NotedExpression). noted n.note.mode of >>=
        λ (m : Note). Ok (typed (noted_at (plain_node n) m) a t)) (ap outcome_noted g.1.0)
        ∙ (bind_found (λ (a : NotedExpression). noted n.note.mode n.note.of >>=
        λ (m : Note). Ok (typed (noted_at (plain_node n) m) a t))
        (ap (note_expression scope (erase e)) (sym g.1.1) ∙ found e g.2)
        ∙ bind_found (λ (m : Note). Ok (typed (noted_at (plain_node n) m) e t)) (noted_found n.note n.note.of g.0 refl))
    found (choice n c a b) g =
        bind_found (λ (test : NotedExpression). paired (is_bare (erase a)) (is_bare (erase b))
        (note_expression scope (erase a)) (note_expression scope (erase b)) n.note.mode >>=
        λ (z : NotedExpression × NotedExpression). of_one_type z.0 z.1 (noted n.note.mode (type_of z.0)) >>=
        λ (m : Note). Ok (choice (noted_at (plain_node n) m) test z.0 z.1))
        (ap (note_expression scope (erase c)) (sym g.1.0) ∙ found c g.2)
        ∙ (bind_found (λ (z : NotedExpression × NotedExpression). of_one_type z.0 z.1
        (noted n.note.mode (type_of z.0)) >>=
        λ (m : Note). Ok (choice (noted_at (plain_node n) m) c z.0 z.1))
        (ap (λ (x : Bool). paired x (is_bare (erase b)) (note_expression scope (erase a))
        (note_expression scope (erase b)) n.note.mode) (bare_kept a)
        ∙ (ap (λ (y : Bool). paired (is_bare a) y (note_expression scope (erase a))
        (note_expression scope (erase b)) n.note.mode) (bare_kept b) ∙ paired_found (is_bare a) (is_bare b)
        (note_expression scope (erase a)) (note_expression scope (erase b)) n.note.mode a b (found a g.3)
        (found b g.4) g.1.1.modes))
        ∙ bind_found (λ (m : Note). Ok (choice (noted_at (plain_node n) m) c a b))
        (one_type_found a b (noted n.note.mode (type_of a)) g.1.1.one_type
        ∙ noted_found n.note (type_of a) g.0 g.1.2))

    all_found : (es : NotedExpressions) → AllGoodIn scope es → AllFind (operands scope (erase_all es)) (items_of es)
    all_found no_expressions g = tt
    all_found (expressions e es) g = (bare_kept e, found e g.0, all_found es g.1)

    labelled_found : (es : NotedArguments) → AllGoodLabelled scope es →
        AllFind (labelled_operands scope (erase_arguments es)) (values_of es)
    labelled_found no_arguments g = tt
    labelled_found (arguments label e es) g = (bare_kept e, found e g.0, labelled_found es g.1)

-- Two good notings of one tree in one mode are one: both are what the search gives.
pub noted_once : (scope : Scope) (a b : NotedExpression) → AllGood scope a → AllGood scope b →
    erase a ≡ erase b → mode_of a ≡ mode_of b → a ≡ b
noted_once scope a b g h e m =
    let both : note_expression scope (erase a) (mode_of a) ≡ Ok b =
    ap (λ t. note_expression scope t (mode_of a)) e
    ∙ (ap (note_expression scope (erase b)) m ∙ found scope b h) in
    ok_same a b (sym (found scope a g) ∙ both)
