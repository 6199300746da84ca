use Rattle.std.proofs.Common.{refl, sym, arith}
use Rattle.fixed_vec.specs.Items.{items_of}
use Rattle.ramps.specs.View.{key_of}
use Rattle.ramps.specs.Held.{rows_of}
use Rattle.ramps.proofs.Added.{set_added, push_added, rows_sound}
use Rattle.ramps.proofs.Paging.{added_distinct}
use Rattle.ramps.proofs.rows.Rows.add.Goals as goal

pub invariant_of-self : goal.invariant_of-self
invariant_of-self c =
    let t = c.args.self.now in
    let k = key_of c.args.key in
    record {
      distinct = added_distinct c.args.page c.args.patch k (rows_of t) _ (rows_sound t)
          (set_added c.args.page c.args.patch k (items_of t.rows) _ _ refl c.choice.result c.choice.ensures c.in-Some.at c.in-Some.is c.set.ensures);
    }

pub returns-in-Some : goal.returns-in-Some
returns-in-Some c =
    sym (set_added c.args.page c.args.patch (key_of c.args.key) (items_of c.args.self.now.rows) _ _ refl c.choice.result c.choice.ensures c.in-Some.at c.in-Some.is c.set.ensures)

pub invariant_of-self-then-len-lt-MAX_COUNT : goal.invariant_of-self-then-len-lt-MAX_COUNT
invariant_of-self-then-len-lt-MAX_COUNT c =
    let t = c.args.self.now in
    let k = key_of c.args.key in
    record {
      distinct = added_distinct c.args.page c.args.patch k (rows_of t) _ (rows_sound t)
          (push_added c.args.page c.args.patch k (items_of t.rows) _ _ refl c.choice.result c.choice.ensures c.in-None.is (omega arith) c.push.ensures);
    }
