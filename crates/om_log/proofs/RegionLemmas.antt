-- What the rules of the regions say.
use Rattle.std.proofs.Common.{◌≡◌, ◌+◌, ◌%◌, ◌^◌, false, ◌&&◌, nat_eq, leb, refl}
use Rattle.std.proofs.lemmas.Bool.{and_parts, eq-eqb, eqb-true, le-leb, leb-true, lt-ltb, ltb-true}
use Rattle.om_base.specs.Limits.{page_size}
use Rattle.om_base.specs.Spans.{shares}
use Rattle.om_base.proofs.FirstLemmas.{kept_by, none_of}
use Rattle.om_log.specs.Regions.{HasRoom, IsLawfulStart, ends_in_space, has_stack, has_whole_pages, heap_span, is_small, stack_span, start_fault, start_faults}
use Rattle.om_log.specs.declared.fault.LogFault.TheVariants.{Region}
use Rattle.om_log.specs.declared.start.Start.{Start}

-- lawful regions have room
pub room_of : (start : Start) → IsLawfulStart start → HasRoom start
unfolding start_fault
room_of start lawful =
    let kept = none_of (start_faults start) lawful in
    let a = nat_eq (start.stack_low % page_size) 0 in
    let b = nat_eq (start.stack_size % page_size) 0 in
    let c = nat_eq (start.heap_low % page_size) 0 in
    let d = nat_eq (start.heap_size % page_size) 0 in
    let pages = and_parts (a && b && c) d (kept_by (has_whole_pages start) Region kept.0) in
    let three = and_parts (a && b) c pages.0 in
    let two = and_parts a b three.0 in
    let ends = and_parts (leb (start.stack_low + start.stack_size) (2 ^ 32)) (leb (start.heap_low + start.heap_size) (2 ^ 32)) (kept_by (ends_in_space start) Region kept.1.1.0) in
    record {
      stack_low = eqb-true (start.stack_low % page_size) 0 two.0;
      stack_size = eqb-true (start.stack_size % page_size) 0 two.1;
      heap_low = eqb-true (start.heap_low % page_size) 0 three.1;
      heap_size = eqb-true (start.heap_size % page_size) 0 pages.1;
      stack = ltb-true 0 start.stack_size (kept_by (has_stack start) Region kept.1.0);
      stack_end = leb-true (start.stack_low + start.stack_size) (2 ^ 32) ends.0;
      heap_end = leb-true (start.heap_low + start.heap_size) (2 ^ 32) ends.1;
      most = leb-true (start.stack_size + start.heap_size) 33_554_432 (kept_by (is_small start) Region kept.1.1.1.0);
    }

-- regions that have room and share no address are lawful
pub lawful_of : (start : Start) → HasRoom start → shares (stack_span start) (heap_span start) ≡ false → IsLawfulStart start
unfolding start_fault
lawful_of start room apart =
    rw (
      eq-eqb (start.stack_low % page_size) 0 room.stack_low,
      eq-eqb (start.stack_size % page_size) 0 room.stack_size,
      eq-eqb (start.heap_low % page_size) 0 room.heap_low,
      eq-eqb (start.heap_size % page_size) 0 room.heap_size,
      lt-ltb 0 start.stack_size room.stack,
      le-leb (start.stack_low + start.stack_size) (2 ^ 32) room.stack_end,
      le-leb (start.heap_low + start.heap_size) (2 ^ 32) room.heap_end,
      le-leb (start.stack_size + start.heap_size) 33_554_432 room.most,
      apart,
    ) refl
