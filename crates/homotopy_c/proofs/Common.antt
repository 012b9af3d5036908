-- What proofs of this crate cite of its definitions and of other crates, passed on from one place (by tools/imports). Declares nothing.
pub use Rattle.compact_surfaces.specs.CompactSurfaces.{IsCompactSurface, IsOrientableCompactSurface}
pub use Rattle.core.proofs.alloc.Calls.{Al, Goes-blank, handle_tells}
pub use Rattle.core.proofs.atomic.Steps.{fm}
pub use Rattle.core.proofs.cell.Inside.{Good, one}
pub use Rattle.homology.specs.ArrayCertificates.{AreSmall}
pub use Rattle.homology.specs.declared.array.HomologyNumbers.{HomologyNumbers}
pub use Rattle.homology.specs.declared.array.HomologyNumbers.TheVariants.{Chain, Cocycle}
pub use Rattle.homotopy_arrays.specs.Compact.{IsCompactFault, IsCompactKept, IsDecideAnyFault, IsOrientableCompactFault}
pub use Rattle.homotopy_arrays.specs.Decisions.{AreAnsweredOn, IsAskedFault, IsDecideFault, IsKept}
pub use Rattle.homotopy_arrays.specs.Homologies.{AreShown, AreShownAs, IsHomologyFaultOn, ShowsWalksOn}
pub use Rattle.homotopy_arrays.specs.Loops.{IsLoopAnswer}
pub use Rattle.homotopy_arrays.specs.MeshArrays.{mesh_from_arrays}
pub use Rattle.homotopy_arrays.specs.Pairs.{AreWalks, IsAnswer, are_pairs, walk_in_arrays}
pub use Rattle.homotopy_arrays.specs.Surfaces.{EndsOn, IsMeasureOf, IsSurfaceFault, OfMesh}
pub use Rattle.homotopy_arrays.specs.contracts.kept.KeptMesh.{the_row}
pub use Rattle.homotopy_arrays.specs.declared.certify.CertifyFault.{CertifyFault}
pub use Rattle.homotopy_arrays.specs.declared.decide.PairAnswer.TheVariants.{Different, Faulty, Homotopic}
pub use Rattle.homotopy_arrays.specs.declared.fault.Fault.{Fault}
pub use Rattle.homotopy_arrays.specs.declared.pair.WalkFault.{WalkFault}
pub use Rattle.homotopy_arrays.specs.declared.pair.WalkFault.TheVariants.{Empty, Long, Loops, Pair}
pub use Rattle.homotopy_arrays.specs.declared.verify.VerifyFault.{VerifyFault}
pub use Rattle.homotopy_c.specs.Certified.{IsCertifyCall, TellsCertificate, code_of, told_certify}
pub use Rattle.homotopy_c.specs.Handles.{holds_at}
pub use Rattle.homotopy_c.specs.Homologous.{IsHomologyCall, IsHomologyCallAs, TellsHomology, answer_code, homology_numbers_of, told_homology}
pub use Rattle.homotopy_c.specs.Judged.{IsVerifyCall, ended, judged, judged_denial, judged_labels, judged_moves, move_code, told_certificate, told_verify}
pub use Rattle.homotopy_c.specs.Kept.{IsMeshAnswersCall, IsMeshClassesCall, IsMeshDecideCall, IsMeshNewAnyCall, IsMeshNewCall, TellsHeld, TellsKept}
pub use Rattle.homotopy_c.specs.Meanings.{CertificateHolds, DoesAnswer, DoesAnswerLoops, DoesMeasure, IsAcceptedChain, IsAcceptedCocycle, Shows, ShowsDifferent, ShowsHomologousOn, ShowsHomotopic, ShowsNotHomologousOn, StandCounted}
pub use Rattle.homotopy_c.specs.Outcomes.{byte_of, done, loop_byte, told_fault, told_no_classes, told_walks, walk_code}
pub use Rattle.homotopy_c.specs.Told.{AreClassesTold, IsBytesCall, IsClassesCall, IsDecideAnyCall, IsDecideCall, IsPut, IsSurfaceTold, TellsBytes, TellsClasses, TellsSurface, in_front}
pub use Rattle.homotopy_c.specs.declared.outcome.Outcome.{Outcome}
pub use Rattle.std.proofs.Common.{List, ap, append_assoc, arith, false, get_or, inl, inr, length, length-take-le, lit<, refl, set, subst, sym, take, true, ℕ, [], ◌*◌, ◌++◌, ◌+◌, ◌/◌, ◌<◌, ◌↔◌, ◌∙◌, ◌∷◌, ◌≡◌, ◌≢◌, ◌≤◌, ◌⊎◌}
pub use Rattle.std.proofs.Math.Seq.{take-append_seam}
pub use Rattle.std.proofs.lemmas.Bool.{cases_lt, ne_eqb}
pub use Rattle.std.proofs.lemmas.List.{drop_more, get_or-map, get_or_append_left, length-map, map-append, set_at, take_at, take_more}
pub use Rattle.std.proofs.raw_atomic.Walks.{leaves, proved_at}
pub use Rattle.std.specs.Global.{Box, Vec}
pub use Rattle.std.specs.Prelude.{Bool, Err, MatchResult, None, Ok, Option, Result, Some, map, ℤ, ◌==◌, ◌||◌}
pub use Rattle.std.specs.contracts.impls.GlobalAllocator.TheImpl.{ghosts}
pub use Rattle.std.specs.declared.alloc.Global.{Global}
pub use Rattle.std_alloc.proofs.BoxSteps.Steps.{box_in, box_out}
pub use Rattle.std_alloc.proofs.ResultValues.{and_tt}
pub use Rattle.std_alloc.specs.Box.Ownership.{box_owns}
pub use Rattle.surf_model.specs.FaceLists.{FaceList, HasFileSize, IsFaceList}
pub use Rattle.surf_model.specs.OrientableSurfaces.{IsOrientableSurface}
pub use Rattle.walk_files.specs.declared.pair.PairFault.TheVariants.{EndsDiffer, NoEdge, NoVertex, NotTwo}
pub use base.Fml.{Fml, fex, flft, fsep, ftrue}
pub use base.Logic.{SProp, emp, ent, fst∗, guard, guard_i, id⊢, never, snd∗, via}
pub use contract.Monad.{fact, fact_i, fact_use}
pub use contract.Running.{tables}
pub use denote.Builtin.{RawPtr}
pub use denote.Exit.{no, yes}
pub use denote.Memory.{lone}
pub use denote.Param.{bounded, layout, param}
pub use denote.Param.Laws.{Laws, param_laws}
pub use denote.RattleType.{RattleType, Valss, owns}
pub use denote.RawPtr.{Ptr, Testable, block_ptr, in_a_block, lies_at, null_ptr, ptr_val, tests_null}
pub use denote.Signature.{plain, type_at, types_at}
pub use denote.Steps.{heard, nothing, only}
pub use denote.Struct.Owning.{fields, shape, to}
pub use denote.Struct.Struct.{Struct, exits_of, within}
pub use denote.Triple.Call.{calls_at, calls_at_last}
pub use denote.Triple.Entry.{alive}
pub use denote.Triple.Spec.{triple_of}
pub use denote.Triple.Walked.{Goes-dropped, Stays, stay_dropped, walk_of}
pub use mir.MapTy.{inst_fn}
pub use mir.Syntax.{Fn, a_type, dcons, dnil, impl, tcons, tnil, ty_ptr, ty_struct}
pub use mir.Val.{Val, WT, has_ty, of_list, vcons, vnil, vptr, vstruct}
pub use prog.Wp.{Env, WpFn}
pub use seplogic.Ra.Ura.{Ura}
pub use types.ByLocal.{alloc_all, env, free_all, get, get_in, lands_as, lands_last, look_at, pass_all, sets}
pub use types.Kit.{Goal, Item, Seq, Step, at_ret, await, by, drop, feq_i, feq_l, fjoin, fpack, fpick, fsplit, given, join, keep, later, learn, move, pick, qed, raw, rewrite, some, split, split3, step, suffices, use0, use1, !, ‵, ◌$◌, ◌∵◌, ◌⊛◌}
pub use types.Logic.{Logic, sem}
pub use types.Part.{agg, sub, whole}
pub use types.Run.{and_then, bin, blocks, branches, enter, exec, first, fld, lit, no_more, of_opd, returns, returns_within, skips, stop}
