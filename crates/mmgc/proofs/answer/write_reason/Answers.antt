use Rattle.std.proofs.Common.{codes, refl}
use Rattle.mmgc.specs.Added.{No_path, Shortest, path_spelling}
use Rattle.mmgc.proofs.answer.write_reason.Goals as goal

pub returns-in-Some-clause-written : goal.returns-in-Some-clause-written
returns-in-Some-clause-written g c =
    let hops = c.search_heap.new.why.hops in
    record {
      text = path_spelling hops;
      is = Shortest c.args.target c.requires.hit.falls hops c.in-Some.ensures.searched.shortest refl;
      written = c.write_path.ensures.written;
    }

pub returns-in-None-clause-written : goal.returns-in-None-clause-written
returns-in-None-clause-written g c =
    record {
      text = codes "none\n";
      is = No_path c.args.target c.requires.hit.falls c.in-None.ensures.searched refl;
      written = c.text.ensures.written;
    }
