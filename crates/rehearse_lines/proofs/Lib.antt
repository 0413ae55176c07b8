mod LodgeLaws
