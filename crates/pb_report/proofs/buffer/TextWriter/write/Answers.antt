use Rattle.std.proofs.Common.{refl, subst}
use Rattle.std.specs.Io.KnownBytes.{Appends}
use Rattle.pb_report.proofs.Sending.{put_both}
use Rattle.pb_report.proofs.buffer.TextWriter.write.Goals as goal

pub returns-then-text-gt-CAPACITY : goal.returns-then-text-gt-CAPACITY
returns-then-text-gt-CAPACITY g c =
    let last = c.put-then-text-gt-CAPACITY in
    record {
      same_sink = refl;
      delivers =
          put_both g.S.Sink last.result c.args.self.now.sink.now c.put.new.writer
          last.new.writer c.args.self.now.buffer.now.bytes.items c.clear.new.self.items c.args.text.now
          (subst (Appends _ _) c.deref.ensures.value c.in_ok-put.ensures.all) c.in_ok-put.ensures.ok_failed
          last.ensures.all last.ensures.ok_failed last.ensures.prefix last.ensures.err_failed c.clear.ensures.items;
    }
