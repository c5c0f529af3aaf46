-- A refused call and an accepted one are what `call_to` and `answer_of` give (`refused_call`, `accepted_call`).
use mathlib.Core.Path.{sym}
use lib.ListN.{length}
use Rattle.spi.proofs.Call.{fitting, refused_call, accepted_call}
use Rattle.spi.proofs.transfer.Goals as goal

pub run-after-requires : goal.run-after-requires
run-after-requires c =
    let a = c.args in
    let f = fitting a.chip (length a.bytes.now) (length a.reply.now) (sym c.in-Ok.ensures) in
    (f.ep0, f.ep1, f.some, f.fits)

pub returns-in-Err : goal.returns-in-Err
returns-in-Err c =
    let a = c.args in
    refused_call a.chip a.bytes.now a.reply.now _ _ (sym c.in-Err.ensures) c.pin.ensures

pub returns-in-Ok : goal.returns-in-Ok
returns-in-Ok c =
    let a = c.args in
    accepted_call a.chip _ a.bytes.now a.reply.now _ _ (sym c.in-Ok.ensures) c.run-after.ensures c.pin-in-Ok.ensures
