use Rattle.std.proofs.Common.{◌≡◌, ◌∙◌, ap, arith, length, length-append}
use Rattle.commit_disk.specs.Table.{Stored, rows_block}
use Rattle.commit_disk.specs.Buffer.{with_row, behind_gate, stored_in}
use Rattle.commit_disk.proofs.Buffers.{is_buffer, row_added, stored_in-behind_gate}
use Rattle.commit_disk.proofs.block.Block.add.Goals as goal

now_written : (c : goal.After-write_numbers) → c.write_numbers.new.buffer.items ≡ behind_gate (rows_block (with_row (stored_in c.self.inside.count c.self.inside.buffer.items) c.args.row.now))
now_written c = row_added _ c.args.row.now _ _ _ _ _ c.self.invariant.written c.push_row.ensures.items (omega arith) (omega arith) c.write_numbers.ensures.items

pub invariant_of-self : goal.invariant_of-self
invariant_of-self c =
    let block : Stored = stored_in c.self.inside.count c.self.inside.buffer.items in
    let counts : block.count ≡ c.args.self.now.count = ap (λ (b : Stored). b.count) c.self.view_is in
    let sizes : length block.bytes ≡ length c.args.self.now.bytes = ap (λ (b : Stored). length b.bytes) c.self.view_is in
    is_buffer (with_row block c.args.row.now) _ _ (now_written c) (omega arith) (omega (arith, length-append block.bytes c.args.row.now)) (omega arith)

pub returns : goal.returns
returns c =
    let block : Stored = stored_in c.self.inside.count c.self.inside.buffer.items in
    stored_in-behind_gate (with_row block c.args.row.now) _ (now_written c) ∙ ap (λ (b : Stored). with_row b c.args.row.now) c.self.view_is
