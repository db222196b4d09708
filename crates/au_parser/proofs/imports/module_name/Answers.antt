use Rattle.std.proofs.Common.{◌≡◌, ℕ, ◌+◌, ◌-◌, length, drop, map, ap, sym, subst, ◌∙◌, arith}
use Rattle.au_syntax.specs.contracts.parsed.ParsedPhase.TheImpl.{ghosts as parsed}
use Rattle.au_syntax.specs.Views.{placed}
use Rattle.au_read_expressions.specs.Bounds.{usual}
use Rattle.au_read_expressions.specs.Reading as reading
use Rattle.au_read_expressions.proofs.Loops.{with_front, with_none, map_pushed}
use Rattle.au_parser.specs.ModuleReading.{names_within, module_name_at}
use Rattle.au_parser.proofs.CodeNames.{names_on, names_end, names_pass, fits_true, fits_false}
use Rattle.au_parser.proofs.imports.module_name.Goals as goal

pub loop-init : goal.loop-init
unfolding module_name_at
loop-init c =
    let size : ℕ = length c.args.tokens.now in
    let all : size - 0 ≡ size = omega arith in
    let read = λ (n : ℕ). names_within usual n 0 c.args.tokens.now in (
      omega arith,
      ap (λ n. with_front (map (placed parsed) c.new-names.result.items) (read n)) all
          ∙ ap (λ xs. with_front (map (placed parsed) xs) (read size)) c.new-names.ensures.items
          ∙ with_none (read size),
    )

pub returns-then-bytes-gt-MOST_NAME_BYTES : goal.returns-then-bytes-gt-MOST_NAME_BYTES
returns-then-bytes-gt-MOST_NAME_BYTES c =
    let bytes : ℕ = c.loop.used + length c.as_bytes.result.now in
    let left : ℕ = length c.args.tokens.now - c.loop.counter in
    subst (λ e. reading.Stops e (module_name_at usual c.args.tokens.now)) (sym c.too_long.ensures)
    (sym c.loop.invariant.1
    ∙ names_pass usual (map (placed parsed) c.loop.names.items) (placed parsed c.in_ok-one.one) left
    (left - 1) c.loop.used bytes c.loop.rest.now c.in_ok-one.next.now
    (omega (arith, c.loop-test.true)) c.in_ok-one.ensures
    (ap (λ bs. c.loop.used + length bs) c.as_bytes.ensures.bytes)
    (fits_false bytes 64 c.if-bytes-gt-MOST_NAME_BYTES.true))

pub returns-then-not-is_sign : goal.returns-then-not-is_sign
returns-then-not-is_sign c =
    let bytes : ℕ = c.loop.used + length c.as_bytes.result.now in
    let left : ℕ = length c.args.tokens.now - c.loop.counter in
    sym c.loop.invariant.1
    ∙ names_end usual (map (placed parsed) c.loop.names.items) (placed parsed c.in_ok-one.one) left (left - 1)
    c.loop.used bytes c.loop.rest.now c.in_ok-one.next.now
    (omega (arith, c.loop-test.true)) c.in_ok-one.ensures
    (ap (λ bs. c.loop.used + length bs) c.as_bytes.ensures.bytes)
    (fits_true bytes 64 c.if-bytes-gt-MOST_NAME_BYTES.false) (sym c.if-not-is_sign.ensures)
    ∙ ap (λ xs. reading.read_of xs c.in_ok-one.next.now)
    (sym (map_pushed (placed parsed) c.loop.names.items c.push.new.self.items c.in_ok-one.one
    c.in_ok-push.ensures.items))

pub loop-preserved : goal.loop-preserved
loop-preserved c =
    let bytes : ℕ = c.loop.used + length c.as_bytes.result.now in
    let left : ℕ = length c.args.tokens.now - c.loop.counter in
    let j : ℕ = length c.args.tokens.now - (c.loop.counter + 1) in (
      omega (arith, c.if-bytes-gt-MOST_NAME_BYTES.false),
      ap (λ r. with_front (map (placed parsed) c.push.new.self.items) (names_within usual j (bytes + 1) r))
          c.after-rest.ensures
          ∙ ap (λ xs. with_front xs (names_within usual j (bytes + 1) (drop 1 c.in_ok-one.next.now)))
          (map_pushed (placed parsed) c.loop.names.items c.push.new.self.items c.in_ok-one.one
          c.in_ok-push.ensures.items)
          ∙ sym (names_on usual (map (placed parsed) c.loop.names.items) (placed parsed c.in_ok-one.one) left
          j c.loop.used bytes c.loop.rest.now c.in_ok-one.next.now
          (omega (arith, c.loop-test.true)) c.in_ok-one.ensures
          (ap (λ bs. c.loop.used + length bs) c.as_bytes.ensures.bytes)
          (fits_true bytes 64 c.if-bytes-gt-MOST_NAME_BYTES.false) (sym c.if-not-is_sign.ensures))
          ∙ c.loop.invariant.1,
    )
