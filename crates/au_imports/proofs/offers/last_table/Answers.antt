use Rattle.std.proofs.Common.{◌-◌, [], arith, rules}
use Rattle.au_syntax.specs.contracts.parsed.ParsedPhase.TheImpl.{ghosts as parsed}
use Rattle.au_syntax.specs.Plain.{plain_declaration}
use Rattle.au_syntax.specs.Views.{declaration}
use Rattle.au_types.specs.Tables.{with_all}
use Rattle.au_imports.proofs.OfferLemmas.{back_start, back_step, back_end, names_back}
use Rattle.au_imports.proofs.offers.last_table.Goals as goal

pub loop-left-init : goal.loop-left-init
loop-left-init c = record {
  within = search rules;
  same = back_start (plain_declaration parsed.name_bytes) (declaration parsed)
      c.args.space c.new-table.result c.args.declarations.now.items c.len-left.result c.new-table.ensures
      (search rules);
}

pub loop-left-preserved : goal.loop-left-preserved
loop-left-preserved c =
    record {
      within = omega (arith, c.loop-left.invariant.within);
      same = back_step (plain_declaration parsed.name_bytes) (declaration parsed)
          c.args.space c.loop-left.table c.put_declared.new.table
          (with_all [] (names_back (plain_declaration parsed.name_bytes)
          (declaration parsed) c.args.space c.args.declarations.now.items))
          c.args.declarations.now.items c.loop-left.left (c.loop-left.left - 1) c.index.result.now
          (omega (arith, c.loop-left-test.true))
          (omega (arith, c.loop-left.invariant.within, c.loop-left-test.true))
          c.index.ensures c.loop-left.invariant.same c.in_ok-put_declared.ensures;
    }

pub returns : goal.returns
returns c = back_end (plain_declaration parsed.name_bytes)
    (declaration parsed) c.args.space c.loop-left.table c.args.declarations.now.items
    c.loop-left.left c.loop-left-test.false c.loop-left.invariant.same
