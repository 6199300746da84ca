use Rattle.encoding.proofs.Kept.{few_added, patches_fit, runs_fit, patched_appended, turned_appended, recorded_appended}
use Rattle.encoding.proofs.encoding.Encoding.append.Goals as goal

pub append_mapped-requires-2 : goal.append_mapped-requires-2
append_mapped-requires-2 c =
    let s = c.args.self.now in
    let o = c.args.other.now in
    let shift = c.patch_shift-patch_shift.ensures in
    record {
      room = (c.has_room_for.ensures.each c.if-not-has_room_for.false).patches;
      fits = patches_fit s o shift.words shift.stops shift.runs;
    }

pub append_mapped-requires-3 : goal.append_mapped-requires-3
append_mapped-requires-3 c =
    let s = c.args.self.now in
    let o = c.args.other.now in
    let shift = c.run_shift-run_shift.ensures in
    record {
      room = (c.has_room_for.ensures.each c.if-not-has_room_for.false).runs;
      fits = runs_fit s o shift.base shift.glyphs;
    }

pub invariant_of-self : goal.invariant_of-self
invariant_of-self c =
    let s = c.args.self.now in
    let o = c.args.other.now in
    let few = c.counts_stay_few.ensures.each c.if-not-counts_stay_few.false in
    let patch_shift = c.patch_shift-patch_shift.ensures in
    let run_shift = c.run_shift-run_shift.ensures in record {
      few = few_added _ _ _ c.add_assign.ensures.after (few.paths, few.segments, few.clips, few.open_clips);
      patched = patched_appended s o _
          patch_shift.words patch_shift.stops
          c.append_mapped-2.ensures.extended.items c.append-4.ensures.len c.append-6.ensures.len;
      turned = turned_appended s o _ _
          patch_shift.runs c.append_mapped-2.ensures.extended.items c.append_mapped-3.ensures.len;
      recorded = recorded_appended s o _
          run_shift.base run_shift.glyphs c.append_mapped-3.ensures.extended.items c.append-7.ensures.len
          c.append.ensures.len c.append-2.ensures.len c.append-3.ensures.len c.append-4.ensures.len
          c.append_mapped.ensures.len c.append-5.ensures.len;
    }
