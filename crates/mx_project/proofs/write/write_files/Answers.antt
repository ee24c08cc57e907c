use Rattle.std.proofs.Common.{◌≡◌, ◌∙◌, ◌+◌, List, [], ◌∷◌, ◌++◌, Option, take, drop, refl, sym, ap, append_assoc}
use Rattle.std.proofs.lemmas.List.{take-append-drop}
use Rattle.mx_syntax.proofs.ListLemmas.{take_next}
use Rattle.mx_outside.specs.Files.{FileMap, with_bytes}
use Rattle.mx_print.specs.Texts.{Text}
use Rattle.mx_project.specs.Folder.{in_folder}
use Rattle.mx_project.specs.Writing.{File, with_files}
use Rattle.mx_project.proofs.write.write_files.Goals as goal

-- one file more
set_last : (told : Option FileMap) (folder : Text) (fs : List File) (f : File) → with_files told folder (fs ++ f ∷ []) ≡ with_bytes (with_files told folder fs) (in_folder folder f.name) f.bytes
set_last told folder [] f = refl
set_last told folder (g ∷ gs) f = set_last (with_bytes told (in_folder folder g.name) g.bytes) folder gs f

pub loop-i-preserved : goal.loop-i-preserved
loop-i-preserved g c = record {
  set = c.in-Ok.ensures.set
      ∙ ap (λ (t : Option FileMap). with_bytes t (in_folder c.args.folder.now c.index-all-i.result.name) c.index-all-i.result.bytes) c.loop-i.invariant.set
      ∙ sym (set_last (g.F.Files.held c.args.files.now) c.args.folder.now (take c.loop-i.i c.args.all.now) c.index-all-i.result)
      ∙ ap (λ (fs : List File). with_files (g.F.Files.held c.args.files.now) c.args.folder.now fs) (sym (take_next c.args.all.now c.loop-i.i c.index-all-i.result c.loop-i-test.true c.index-all-i.is));
  writes = c.in-Ok.ensures.counted ∙ c.loop-i.invariant.writes;
  reads = c.in-Ok.ensures.no_read ∙ c.loop-i.invariant.reads;
}

pub returns-in-Err-clause-left : goal.returns-in-Err-clause-left
returns-in-Err-clause-left g c = record {
  before = take c.loop-i.i c.args.all.now;
  unset = c.index-all-i.result;
  after = drop (c.loop-i.i + 1) c.args.all.now;
  whole = sym (take-append-drop (c.loop-i.i + 1) c.args.all.now)
      ∙ ap (λ (fs : List File). fs ++ drop (c.loop-i.i + 1) c.args.all.now) (take_next c.args.all.now c.loop-i.i c.index-all-i.result c.loop-i-test.true c.index-all-i.is)
      ∙ append_assoc (take c.loop-i.i c.args.all.now) (c.index-all-i.result ∷ []) (drop (c.loop-i.i + 1) c.args.all.now);
  left = rw (sym c.loop-i.invariant.set) c.in-Err.ensures.left;
}
